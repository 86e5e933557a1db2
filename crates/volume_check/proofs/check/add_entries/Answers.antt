use Rattle.volume_check.proofs.Words.{◌≡◌, ◌+◌, drop, ap, medium_kind_of, AreMediumCalls, no_error, IsTalliedUpTo}
use Rattle.volume_check.proofs.ReelRuns.{look_then}
use Rattle.volume_check.proofs.NextLength.{IsNextLength, next_told}
use Rattle.volume_check.proofs.Telling.{more_told, all_told}
use Rattle.volume_check.proofs.check.add_entries.Goals as goal

pub loop-length-preserved : goal.loop-length-preserved
loop-length-preserved g c =
    let at = c.loop-length.at in let old = c.loop-length.tally in let limit = rw c.in-Some.is at c.in_ok-length.ensures.limit in
    let found : AreMediumCalls (medium_kind_of g.M.Medium)
    (λ x y. (y ≡ x) × (IsTalliedUpTo x at old × IsNextLength (drop at x) c.in_ok-length.field-0)) 0 ⊥ c.args.medium.now c.next_length.new.medium
    = look_then c.loop-length.invariant c.in_ok-length.ensures.run no_error (λ f. absurd f)
    (λ x told next. (told, next_told x at old c.in_ok-length.field-0 told next)) in
    look_then found c.in_ok-add_entry.ensures no_error (λ f. absurd f)
    (λ x told tells.
    more_told x at (at + c.entry_size-at.result) c.in-Some.length old c.add_entry.new.tally limit.1 (ap (λ k. at + k) c.entry_size-at.ensures) told.0
    (rw c.in-Some.is at told.1) tells)

pub returns : goal.returns
returns g c =
    let at = c.loop-length.at in
    look_then c.loop-length.invariant c.in_ok-length.ensures.run (λ f. f) (λ f. f)
    (λ x told next. all_told x at c.loop-length.tally told
    (rw c.in_default.is at (next_told x at c.loop-length.tally c.in_ok-length.field-0 told next)))
