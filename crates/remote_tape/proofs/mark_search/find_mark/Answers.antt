use Rattle.remote_tape.proofs.Words.{[], ◌∷◌, ◌++◌, refl, EIO, Error, Op, MTBSR, next_again, next_back}
use Rattle.refusals.specs.declared.request.TapeRequest.TheVariants as named
use Rattle.remote_tape.proofs.Searching.{back_refused, back_given_up, over_back, search_missing, search_on, search_given_up}
use Rattle.remote_tape.proofs.mark_search.find_mark.Goals as goal

pub returns-in-Ok : goal.returns-in-Ok
returns-in-Ok g c = λ at_mark next replies at. search_missing at_mark c.args.records at c.in-Ok.ensures.1

pub returns-then-is_refused_with : goal.returns-then-is_refused_with
returns-then-is_refused_with g c = λ at_mark next replies at.
    let met = back_refused g.P.Peer.tells _ _ (Op MTBSR 1) c.in-Err.fault.cause (rw c.if-is_refused_with.true at c.is_refused_with.ensures) c.in-Err.ensures.1 in
    search_on next g.P.Peer.tells _ _ replies at_mark (next_back at_mark c.args.records) at _ (next_again at_mark c.args.records) (Error EIO met.0) c.find_from_start.result refl refl (λ ends. refl) met.1
    (c.find_from_start.ensures at_mark next (replies ++ Error EIO met.0 ∷ []))

pub returns-else-is_refused_with : goal.returns-else-is_refused_with
returns-else-is_refused_with g c = λ at_mark next replies at.
    let other = rw c.if-is_refused_with.false at c.is_refused_with.ensures in
    rw c.give_up.ensures (search_given_up next g.P.Peer.tells _ _ replies at_mark (next_back at_mark c.args.records) at named.Space (Op MTBSR 1) c.in-Err.fault (MTBSR, 1, over_back, refl) refl
    (λ n text ends e. back_given_up at_mark c.args.records c.in-Err.fault.cause n text ends other e) c.in-Err.ensures)
