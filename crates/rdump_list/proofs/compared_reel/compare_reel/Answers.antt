use Rattle.std.proofs.Common.{◌≡◌, ◌∙◌, List, ℕ, Option, refl, subst, sym, ap}
use Rattle.sha2.specs.Sha256.{sha256}
use Rattle.catalog.specs.Verdict.{IsVerdict}
use Rattle.catalog.specs.declared.verdict.SumVerdict.{SumVerdict}
use Rattle.rdump_list.specs.ComparedReel.{IsReelCompared}
use Rattle.rdump_list.proofs.compared_reel.compare_reel.Goals as goal
use Rattle.rdump_list.proofs.compared_reel.compare_reel.Goals.{in-Some+in_ok-medium_sum-in-Some, in-None+in_ok-check_reel-in-None}

pub returns-clause-compared : goal.returns-clause-compared
returns-clause-compared g c = λ bytes entries holds spelled.
    let lines = c.args.catalog.now in
    let contents = c.in_ok-contents.contents in
    let found = c.in_ok-contents.ensures.told bytes entries holds spelled in
    let same = c.check_reel.ensures.same bytes holds in
    elim c.match-whole_label.branch [
      | in-Some+in_ok-medium_sum-in-Some w ↦
          let label = w.in-Some.label.now in
          let held : w.in_ok-medium_sum-in-Some.field-0 ≡ sha256 bytes
          = w.in_ok-medium_sum-in-Some.ensures.hashed same.0 same.1 ∙ ap sha256 same.2 in
          let known : IsVerdict lines label (sha256 bytes) w.compare.result
          = subst (λ (sum : List ℕ). IsVerdict lines label sum w.compare.result) held w.compare.ensures in (
            found,
            subst (λ (v : Option SumVerdict). IsReelCompared lines bytes contents v) (sym w.verdict-is)
                (label, w.in-Some.ensures.some, known),
          )
      | in-None+in_ok-check_reel-in-None w ↦
          (found, subst (λ (v : Option SumVerdict). IsReelCompared lines bytes contents v) (sym w.verdict-is) (w.in-None.ensures.none refl))
    ]
