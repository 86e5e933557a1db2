use Rattle.rdump_net.proofs.Words.{◌≡◌, [], ◌∷◌, arith, true, false, refl, plain_number, plain_result, is_done, is_fault}
use Rattle.remote_tape.proofs.Calls.{call_finishes, reply_extends}
use Rattle.rdump_net.proofs.Operating.{operation_asked}
use Rattle.rdump_net.proofs.operation.ask.Goals as goal

pub call-requires-clause-spelling : goal.call-requires-clause-spelling
call-requires-clause-spelling g c = (c.requires.device, (let mode = c.mode_of-mode.ensures in grind arith))

pub returns-in_err-opened : goal.returns-in_err-opened
returns-in_err-opened g c = rw (is_fault c.from_residual.ensures.1) ([], call_finishes refl (rw c.mode_of-mode.ensures at c.in_err-opened.ensures), refl)

pub returns-then-not-is_done : goal.returns-then-not-is_done
returns-then-not-is_done g c =
    let unmet : is_done (plain_number c.in_ok-opened.opened) ≡ false = (let h = c.is_done.ensures in let k = c.if-not-is_done.true in cc) in
    (_ ∷ [], reply_extends _ refl (rw c.mode_of-mode.ensures at c.in_ok-opened.ensures), rw unmet refl, rw unmet refl, λ closed. (rw unmet refl, rw unmet refl))

pub returns : goal.returns
returns g c =
    let met : is_done (plain_number c.in_ok-opened.opened) ≡ true = (let h = c.is_done.ensures in let k = c.if-not-is_done.false in cc) in
    operation_asked g.P.Peer.tells c.args.device.now c.args.op c.args.count (plain_number c.in_ok-opened.opened) (plain_result c.call-2.result) met (rw c.mode_of-mode.ensures at c.in_ok-opened.ensures) c.call-2.ensures
