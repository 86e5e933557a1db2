use Rattle.std.proofs.Common.{◌≡◌, List, ℕ, rules, subst}
use Rattle.catalog.specs.Verdict.{IsVerdict}
use Rattle.volume_check.specs.Hashing.{HoldsEntries}
use Rattle.volume_check.specs.declared.entry_hasher.EntryHasher.{EntryHasher}
use Rattle.rdump_fetch.proofs.compared_sink.ComparedSink.compare.Goals as goal

pub returns-clause-verdict : goal.returns-clause-verdict
returns-clause-verdict g c = (
  c.in_ok-sums.sums.now,
  c.in_ok-label.label.now,
  search rules,
  search rules,
  (λ entries holds.
      let same : c.args.self.now.hasher ≡ c.replace-hasher.result = search rules in
      let held = c.sum.ensures entries (subst (λ (h : EntryHasher). HoldsEntries h entries) same holds) in
      subst (λ (sum : List ℕ). IsVerdict c.in_ok-sums.sums.now c.in_ok-label.label.now sum c.compare.result) held c.compare.ensures),
)
