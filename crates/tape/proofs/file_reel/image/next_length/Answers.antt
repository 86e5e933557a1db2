use Rattle.tape.proofs.Words.{◌+◌, same_Some, drop, ap}
use Rattle.tape.proofs.MediumRuns.{look, look_on, some_bytes}
use Rattle.tape.proofs.Images.{file_none, mark_there, long_tail, torn_there, record_there}
use Rattle.tape.proofs.Spelling.{tail_short}
use Rattle.tape.proofs.file_reel.image.next_length.Goals as goal

pub returns-in_default-clause-run : goal.returns-in_default-clause-run
returns-in_default-clause-run g c =
    look (rw c.in_default.is at c.in_ok-length.ensures) (λ x begins t file. file_none x c.args.at t file (tail_short (drop c.args.at x) begins))

pub returns-then-length-eq0-clause-run : goal.returns-then-length-eq0-clause-run
returns-then-length-eq0-clause-run g c =
    look (rw c.in-Some.is at c.in_ok-length.ensures) (λ x begins t file. mark_there x c.args.at t c.in-Some.length file c.if-length-eq0.true begins)

pub returns-then-length-gt-LENGTH_LIMIT-clause-run : goal.returns-then-length-gt-LENGTH_LIMIT-clause-run
returns-then-length-gt-LENGTH_LIMIT-clause-run g c =
    look (rw c.in-Some.is at c.in_ok-length.ensures)
    (λ x begins t file. file_none x c.args.at t file (long_tail (drop c.args.at x) c.in-Some.length c.if-length-gt-LENGTH_LIMIT.true begins))

pub returns-in_default-2-clause-run : goal.returns-in_default-2-clause-run
returns-in_default-2-clause-run g c =
    look_on (rw c.in-Some.is at c.in_ok-length.ensures) c.in_ok-behind.ensures
    (λ x begins ends t file. file_none x c.args.at t file
    (torn_there x c.args.at c.in-Some.length _ _ (some_bytes c.if-length-eq0.false) (ap (λ k. c.args.at + 4 + k) c.from.ensures) begins ends
    (c.in_default-2.not-Some c.in-Some.length)))

pub returns-then-behind-length-clause-run : goal.returns-then-behind-length-clause-run
returns-then-behind-length-clause-run g c =
    look_on (rw c.in-Some.is at c.in_ok-length.ensures) (rw c.in-Some-2.is at c.in_ok-behind.ensures)
    (λ x begins ends t file. file_none x c.args.at t file
    (torn_there x c.args.at c.in-Some.length _ _ (some_bytes c.if-length-eq0.false) (ap (λ k. c.args.at + 4 + k) c.from.ensures) begins ends
    (λ same. c.if-behind-length.true (same_Some _ _ same))))

pub returns-clause-run : goal.returns-clause-run
returns-clause-run g c =
    look_on (rw c.in-Some.is at c.in_ok-length.ensures) (rw (c.in-Some-2.is, c.if-behind-length.false) at c.in_ok-behind.ensures)
    (λ x begins ends t file. record_there x c.args.at c.in-Some.length _ t file (some_bytes c.if-length-eq0.false) c.if-length-gt-LENGTH_LIMIT.false
    (ap (λ k. c.args.at + 4 + k) c.from.ensures) begins ends)
