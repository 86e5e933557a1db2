use Rattle.std.proofs.Common.{refl}
use Rattle.drives.specs.Opening.{kinds}
use Rattle.rmtd_serve.proofs.Endings.{of_stream}
use Rattle.rmtd_serve.proofs.Seats.{untouched_back, served_back}
use Rattle.rmtd_serve.proofs.at.serve_afresh.Goals as goal

pub returns-in_default : goal.returns-in_default
returns-in_default g c =
    untouched_back (kinds g.H.Holds g.S.Stacks g.S.Reel.Reel) _ _ c.args.drives.now c.args.seat c.args.seat c.args.input.now c.args.output.now c.requires.own c.requires.idle
    c.requires.enough refl

pub returns-in-Err : goal.returns-in-Err
returns-in-Err g c =
    untouched_back (kinds g.H.Holds g.S.Stacks g.S.Reel.Reel) _ _ c.args.drives.now c.args.seat c.in-Err.seat c.args.input.now c.args.output.now c.requires.own c.requires.idle
    c.requires.enough c.in-Err.ensures.made

pub returns : goal.returns
returns g c =
    served_back (kinds g.H.Holds g.S.Stacks g.S.Reel.Reel) _ _ c.args.drives.now c.serve-ending.new.drives c.args.seat c.in-Ok-new.session c.serve-ending.new.session c.args.input.now
    c.serve-ending.new.input c.args.output.now c.serve-ending.new.output c.serve-ending.result c.into_seat.result c.map_err.result c.in-Ok-new.ensures.made c.serve-ending.ensures.served c.serve-ending.ensures.steady
    c.serve-ending.ensures.nothing c.into_seat.ensures (of_stream _ _ c.map_err.ensures.cases)
