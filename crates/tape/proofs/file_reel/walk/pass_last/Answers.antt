use Rattle.tape.proofs.Words.{reverse, sym, refl, ◌∙◌}
use Rattle.tape.proofs.MediumRuns.{look}
use Rattle.tape.proofs.Before.{nothing_ahead}
use Rattle.tape.proofs.Passing.{last_passed}
use Rattle.tape.proofs.file_reel.walk.pass_last.Goals as goal

pub returns-in_default-clause-run : goal.returns-in_default-clause-run
returns-in_default-clause-run g c =
    look c.in_ok-length.ensures.run (λ x is t file. nothing_ahead (reverse t.before) (sym c.in_default.is ∙ is t file))

pub returns-clause-run : goal.returns-clause-run
returns-clause-run g c =
    look c.in_ok-length.ensures.run
    (λ x is t file. rw c.entry_size.ensures (last_passed x c.args.at c.in-Some.length t.before t.after (reverse t.before) refl file
    (sym c.in-Some.is ∙ is t file)))
