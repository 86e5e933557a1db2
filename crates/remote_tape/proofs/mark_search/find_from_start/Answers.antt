use Rattle.std.proofs.lemmas.Bool.{le-ltb, lt-ltb}
use Rattle.remote_tape.proofs.Words.{[], ◌∷◌, ◌++◌, refl, Op, Done, MTREW, NUMBER_LIMIT, next_again, next_forward}
use Rattle.refusals.specs.declared.request.TapeRequest.TheVariants as named
use Rattle.remote_tape.proofs.Searching.{search_ended, search_on, search_given_up}
use Rattle.remote_tape.proofs.mark_search.find_from_start.Goals as goal

pub returns-then-from-records : goal.returns-then-from-records
returns-then-from-records g c = λ at_mark next replies at.
    let done = c.in-Ok.ensures in
    let many = lt-ltb NUMBER_LIMIT c.args.records (rw c.from.ensures at c.if-from-records.true) in
    search_ended next g.P.Peer.tells _ _ replies at_mark (next_again at_mark c.args.records) at (Op MTREW 1) (Done done.0) refl refl refl (λ ends. rw many refl) done.1

pub returns-else-from-records : goal.returns-else-from-records
returns-else-from-records g c = λ at_mark next replies at.
    let done = c.in-Ok.ensures in
    let few = le-ltb NUMBER_LIMIT c.args.records (rw c.from.ensures at c.if-from-records.false) in
    search_on next g.P.Peer.tells _ _ replies at_mark (next_again at_mark c.args.records) at _ (next_forward at_mark c.args.records) (Done done.0) c.find_behind.result refl refl (λ ends. rw few refl) done.1
    (c.find_behind.ensures at_mark next (replies ++ Done done.0 ∷ []))

pub returns-in-Err : goal.returns-in-Err
returns-in-Err g c = λ at_mark next replies at.
    rw c.give_up.ensures (search_given_up next g.P.Peer.tells _ _ replies at_mark (next_again at_mark c.args.records) at named.Rewind (Op MTREW 1) c.in-Err.fault refl refl (λ n text ends e. refl) c.in-Err.ensures)
