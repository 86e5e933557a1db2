use Rattle.std.proofs.Common.{sym, ap, arith}
use Rattle.rmt_server.proofs.Names.{kinds, state, drive_of}
use Rattle.rmt_server.proofs.Closed.{closed_by}
use Rattle.rmt_server.proofs.session.opening.close.Goals as goal

pub put_back-requires-clause-drive : goal.put_back-requires-clause-drive
put_back-requires-clause-drive g c = c.requires.below _ (ap drive_of (sym c.in-Some.ensures.value))

pub give-requires-clause-drive : goal.give-requires-clause-drive
give-requires-clause-drive g c = omega (arith, c.requires.below _ (ap drive_of (sym c.in-Some.ensures.value)), c.requires.enough)

pub returns : goal.returns
returns g c =
    closed_by (kinds g.H.Holds g.S.Stacks g.S.Reel.Reel) (state c.args.drives.now c.args.session_state.now) _ c.in-Some.device c.requires
    (sym c.in-Some.ensures.value)
    c.take.ensures.after c.put_back.ensures c.give.ensures.step c.give.ensures.told c.give.ensures.own
    c.give.ensures.others c.give.ensures.same_drives c.give.ensures.same_seats
