use Rattle.tape.proofs.Words.{◌≡◌, reverse, refl, sym, ◌∙◌, arith, same_Some}
use Rattle.tape.proofs.MediumRuns.{run_none, no_error, look}
use Rattle.tape.proofs.Before.{start_none, last_is}
use Rattle.tape.proofs.file_reel.image.last_length.Goals as goal
use Rattle.tape.proofs.file_reel.image.last_length.Goals.{then-length-gt-LENGTH_LIMIT-via-then-length-gt-LENGTH_LIMIT, then-length-gt-LENGTH_LIMIT-via-else-length-gt-LENGTH_LIMIT+then-entry_size-at}

pub returns-then-at-lt-MARK_SIZE-clause-run : goal.returns-then-at-lt-MARK_SIZE-clause-run
returns-then-at-lt-MARK_SIZE-clause-run g c =
    run_none no_error (λ x held. (refl, λ t file. start_none x c.args.at t (reverse t.before) refl file c.if-at-lt-MARK_SIZE.true))

pub returns-in_default-clause-run : goal.returns-in_default-clause-run
returns-in_default-clause-run g c =
    look (rw c.in_default.is at c.in_ok-length.ensures)
    (λ x begins t file. let l = last_is x c.args.at t (reverse t.before) _ refl file c.if-at-lt-MARK_SIZE.false begins in l.1 ∙ sym l.2)

pub returns-then-length-gt-LENGTH_LIMIT-clause-run : goal.returns-then-length-gt-LENGTH_LIMIT-clause-run
returns-then-length-gt-LENGTH_LIMIT-clause-run g c =
    look (rw c.in-Some.is at c.in_ok-length.ensures)
    (λ x begins t file.
    let l = last_is x c.args.at t (reverse t.before) _ refl file c.if-at-lt-MARK_SIZE.false begins in
    let same : c.in-Some.length ≡ l.0 = same_Some _ _ l.1 in
    absurd (elim c.then-length-gt-LENGTH_LIMIT.branch [
      | then-length-gt-LENGTH_LIMIT-via-then-length-gt-LENGTH_LIMIT w ↦ omega (arith, l.3)
      | then-length-gt-LENGTH_LIMIT-via-else-length-gt-LENGTH_LIMIT+then-entry_size-at w ↦ let fits = rw (sym same) at l.4 in omega arith
    ]))

pub returns-clause-run : goal.returns-clause-run
returns-clause-run g c =
    look (rw c.in-Some.is at c.in_ok-length.ensures)
    (λ x begins t file. let l = last_is x c.args.at t (reverse t.before) _ refl file c.if-at-lt-MARK_SIZE.false begins in l.1 ∙ sym l.2)
