-- The volumes of a dump that are there.
use Rattle.std.proofs.Common.{◌≡◌, ◌↔◌, ℕ, ◌+◌, ◌<◌, Bool, false, IsTrue, List, [], ◌∷◌, ◌++◌, take, get_or, length, sym, ap, subst, ◌∙◌, arith}
use Rattle.std.specs.Prelude.{Contains}
use mathlib.Core.Logic.{⊎_elim}
use Rattle.std.proofs.lemmas.Bool.{true≢false}
use Rattle.std.proofs.lemmas.List.Elements.{Contains-push_cases, Contains-append_left, Contains-push}
use Rattle.std.proofs.lemmas.List.Quantifiers.{Any-push}
use Rattle.dump_run.specs.DumpId.{PlainId}
use Rattle.catalog.specs.Run.{IsInForce, IsLast, IsUpTo}
use Rattle.catalog.specs.SumLine.{PlainSumLine}
use Rattle.catalog.specs.declared.line.CatalogLine.{CatalogLine}
use Rattle.catalog.specs.declared.line.CatalogLine.TheVariants.{Volume}
use Rattle.catalog.specs.declared.run.CatalogRun.{CatalogRun}
use Rattle.catalog.specs.declared.verdict.SumVerdict.TheVariants.{Equal}
use Rattle.rdump_list.specs.DumpFound.{AreNumbersOf, HasVolume, IsVolumeOf}
use Rattle.rdump_list.specs.declared.judged_reel.JudgedReel.{JudgedReel}
use Rattle.rdump_list.proofs.Ranges.{any_left, any_cases, next_take}

one_last : (Kind : CatalogLine → Type 0) (lines : List CatalogLine) (at to : ℕ) (l : CatalogLine) → IsLast Kind lines at → IsLast Kind lines to → at ≡ to
one_last Kind lines at to l a b = grind (arith, a.last to l, b.last at l, a.within, b.within, a.is l, b.is l)

-- one line of a volume is in force
pub one_in_force : (after : List CatalogLine) (id : PlainId) (v w : PlainSumLine) → IsInForce after id v → IsInForce after id w
    → v.label.volume ≡ w.label.volume → v ≡ w
one_in_force after id v w first second same =
    let last = subst (λ n. IsLast (IsUpTo id n) after second.0) (sym same) second.1 in
    let at = one_last (IsUpTo id v.label.volume) after first.0 second.0 (Volume v) first.1 last in
    let both : Volume v ≡ Volume w = sym (first.2 (Volume v)) ∙ ap (λ k. get_or after k (Volume v)) at ∙ second.2 (Volume v) in cc

-- a reel is that of the line in force, if it has this line's label
pub volume_by : (run : CatalogRun) (n : ℕ) (reel : JudgedReel) (v : PlainSumLine) (is : Bool) → reel.verdict ≡ Equal → n ≡ reel.label.now.volume
    → IsInForce run.after.now run.begun.now.id v → v.label.volume ≡ n → IsTrue is ↔ (v.label ≡ reel.label.now)
    → IsTrue is ↔ IsVolumeOf run reel.label.now.volume reel
volume_by run n reel v is equal number forced same told = (
  λ yes. (equal, (v, forced, same ∙ number, told.0 yes)),
  λ has. (let w = has.1.0 in
      let one : v ≡ w = one_in_force run.after.now run.begun.now.id v w forced has.1.1 (same ∙ number ∙ sym has.1.2) in
      told.1 (ap (λ x. x.label) one ∙ has.1.3)),
)

-- no line of the reel's volume is in force
pub no_volume_by : (run : CatalogRun) (n : ℕ) (reel : JudgedReel) → n ≡ reel.label.now.volume
    → ((v : PlainSumLine) → IsInForce run.after.now run.begun.now.id v → v.label.volume ≡ n → ⊥)
    → IsTrue false ↔ IsVolumeOf run reel.label.now.volume reel
no_volume_by run n reel number none = (
  λ yes. absurd (true≢false (sym yes)),
  λ has. absurd (none has.1.0 has.1.1 (has.1.2 ∙ sym number)),
)

-- a reel is that of one volume at most
number_of : (run : CatalogRun) (n : ℕ) (reel : JudgedReel) → IsVolumeOf run n reel → reel.label.now.volume ≡ n
number_of run n reel is = ap (λ l. l.volume) (sym is.1.3) ∙ is.1.2

module _ (run : CatalogRun) (reels : List JudgedReel) (i : ℕ) (d : JudgedReel) (numbers : List ℕ) (within : i < length reels)
    (are : AreNumbersOf run (take i reels) numbers) where
  -- the next reel is that of a volume
  pub one_there : IsVolumeOf run (get_or reels i d).label.now.volume (get_or reels i d)
      → AreNumbersOf run (take (i + 1) reels) (numbers ++ (get_or reels i d).label.now.volume ∷ [])
  one_there is = λ n. (
    (λ has. subst (λ rs. HasVolume run rs n) (sym (next_take reels i d within)) (⊎_elim
        (λ before. any_left (IsVolumeOf run n) (take i reels) (get_or reels i d) ((are n).0 before))
        (λ here. Any-push (IsVolumeOf run n) (take i reels) (get_or reels i d) (subst (λ k. IsVolumeOf run k (get_or reels i d)) here is))
        (Contains-push_cases numbers (get_or reels i d).label.now.volume n has))),
    (λ has. ⊎_elim
        (λ before. Contains-append_left numbers ((get_or reels i d).label.now.volume ∷ []) n ((are n).1 before))
        (λ here. subst (λ k. Contains (numbers ++ (get_or reels i d).label.now.volume ∷ []) k) (number_of run n (get_or reels i d) here)
        (Contains-push numbers (get_or reels i d).label.now.volume))
        (any_cases (IsVolumeOf run n) (take i reels) (get_or reels i d) (subst (λ rs. HasVolume run rs n) (next_take reels i d within) has))),
  )

  -- the next reel is that of no volume
  pub none_there : (IsVolumeOf run (get_or reels i d).label.now.volume (get_or reels i d) → ⊥) → AreNumbersOf run (take (i + 1) reels) numbers
  none_there none = λ n. (
    (λ has. subst (λ rs. HasVolume run rs n) (sym (next_take reels i d within))
        (any_left (IsVolumeOf run n) (take i reels) (get_or reels i d) ((are n).0 has))),
    (λ has. ⊎_elim
        (λ before. (are n).1 before)
        (λ here. absurd (none (subst (λ k. IsVolumeOf run k (get_or reels i d)) (sym (number_of run n (get_or reels i d) here)) here)))
        (any_cases (IsVolumeOf run n) (take i reels) (get_or reels i d) (subst (λ rs. HasVolume run rs n) (next_take reels i d within) has))),
  )
