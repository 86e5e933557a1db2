use Rattle.remote_tape.proofs.Words.{refl, Op, MTFSF, next_over}
use Rattle.refusals.specs.declared.request.TapeRequest.TheVariants as named
use Rattle.remote_tape.proofs.Searching.{over_marks, search_found, search_given_up}
use Rattle.remote_tape.proofs.mark_search.find_here.Goals as goal

pub returns-in-Ok : goal.returns-in-Ok
returns-in-Ok g c = λ at_mark next replies at. search_found at_mark at c.in-Ok.ensures.1

pub returns-in-Err : goal.returns-in-Err
returns-in-Err g c = λ at_mark next replies at.
    rw c.give_up.ensures (search_given_up next g.P.Peer.tells _ _ replies at_mark (next_over at_mark) at named.Space (Op MTFSF 1) c.in-Err.fault (MTFSF, 1, over_marks, refl) refl (λ n text ends e. refl) c.in-Err.ensures)
