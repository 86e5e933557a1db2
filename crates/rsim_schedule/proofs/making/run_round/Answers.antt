use Rattle.rsim_schedule.proofs.Words.{true}
use Rattle.rsim_schedule.proofs.Played.{played_both, played_stop}
use Rattle.rsim_schedule.proofs.making.run_round.Goals as goal

pub returns-in_err-arrived : goal.returns-in_err-arrived
returns-in_err-arrived g c =
    played_stop g.W.Write.contents _ _ _ c.args.out.now c.send_own.new.out c.arrive.new.out c.arrive.result c.from_residual-in_err-arrived.result
    c.in_err-arrived.field-0.0 c.in_ok-sent.ensures c.arrive.ensures c.in_err-arrived.was c.from_residual-in_err-arrived.ensures.1

pub returns-in_err-served : goal.returns-in_err-served
returns-in_err-served g c =
    played_stop g.W.Write.contents _ _ _ c.args.out.now c.arrive.new.out c.serve.new.out c.serve.result c.from_residual-in_err-served.result
    c.in_err-served.field-0.0
    (played_both g.W.Write.contents _ _ _ c.args.out.now c.send_own.new.out c.arrive.new.out true c.in_ok-sent.ensures c.in_ok-arrived.ensures)
    c.serve.ensures c.in_err-served.was c.from_residual-in_err-served.ensures.1

pub returns-in_err-heard : goal.returns-in_err-heard
returns-in_err-heard g c =
    played_stop g.W.Write.contents _ _ _ c.args.out.now c.serve.new.out c.arrive-2.new.out c.arrive-2.result c.from_residual-in_err-heard.result
    c.in_err-heard.field-0.0 (played_both g.W.Write.contents _ _ _ c.args.out.now c.arrive.new.out c.serve.new.out true
    (played_both g.W.Write.contents _ _ _ c.args.out.now c.send_own.new.out c.arrive.new.out true c.in_ok-sent.ensures c.in_ok-arrived.ensures)
    c.in_ok-served.ensures) c.arrive-2.ensures c.in_err-heard.was c.from_residual-in_err-heard.ensures.1

pub returns : goal.returns
returns g c =
    played_both g.W.Write.contents _ _ _ c.args.out.now c.serve.new.out c.arrive-2.new.out true
    (played_both g.W.Write.contents _ _ _ c.args.out.now c.arrive.new.out c.serve.new.out true
    (played_both g.W.Write.contents _ _ _ c.args.out.now c.send_own.new.out c.arrive.new.out true c.in_ok-sent.ensures c.in_ok-arrived.ensures)
    c.in_ok-served.ensures) c.in_ok-heard.ensures
