use Rattle.remote_tape.proofs.Words.{[], ◌∷◌, ◌++◌, refl, Op, Done, MTFSR, next_forward, next_over}
use Rattle.refusals.specs.declared.request.TapeRequest.TheVariants as named
use Rattle.remote_tape.proofs.Searching.{over_records, search_on, search_given_up}
use Rattle.remote_tape.proofs.mark_search.find_behind.Goals as goal

pub returns-in-Ok : goal.returns-in-Ok
returns-in-Ok g c = λ at_mark next replies at.
    let done = c.in-Ok.ensures in
    search_on next g.P.Peer.tells _ _ replies at_mark (next_forward at_mark c.args.records) at _ (next_over at_mark) (Done done.0) c.find_here.result refl refl (λ ends. refl) done.1 (c.find_here.ensures at_mark next (replies ++ Done done.0 ∷ []))

pub returns-in-Err : goal.returns-in-Err
returns-in-Err g c = λ at_mark next replies at.
    rw c.give_up.ensures (search_given_up next g.P.Peer.tells _ _ replies at_mark (next_forward at_mark c.args.records) at named.Space (Op MTFSR c.args.records) c.in-Err.fault (MTFSR, c.args.records, over_records, refl) refl
    (λ n text ends e. refl) c.in-Err.ensures)
