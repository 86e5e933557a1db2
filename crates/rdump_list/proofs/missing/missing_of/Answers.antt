use Rattle.std.proofs.Common.{◌≡◌, ◌+◌, ◌-◌, ◌++◌, ◌∷◌, [], min, refl, sym, subst, arith}
use Rattle.std.specs.Prelude.{Contains}
use Rattle.std.proofs.lemmas.Grind.{common_steps}
use Rattle.rdump_list.specs.DumpFound.{AreMissing}
use Rattle.rdump_list.specs.declared.missing.VolumeRange.{VolumeRange}
use Rattle.rdump_list.proofs.Ranges.{with_gap, without_gap}
use Rattle.rdump_list.proofs.missing.missing_of.Goals as goal
use Rattle.rdump_list.proofs.missing.missing_of.Goals.{then-next-done+in_ok-push, else-next-done}

pub loop-done-preserved : goal.loop-done-preserved
loop-done-preserved c =
    let there = c.args.there.now in
    let done = c.loop-done.done in
    let volumes = c.args.volumes in
    let next = c.next_there-next.result in
    let least : c.min-done.result ≡ min next volumes = c.min-done.ensures in
    let missing : AreMissing (Contains there) (min next volumes) c.if-next-done.missing.items
    = elim c.if-next-done.branch [
      | then-next-done+in_ok-push w ↦
          let r : VolumeRange = record { first = done + 1; last = next - 1 } in
          let items : c.if-next-done.missing.items ≡ c.loop-done.missing.items ++ r ∷ [] = grind (arith, common_steps) in
          subst (AreMissing (Contains there) (min next volumes)) (sym items)
          (with_gap there done volumes next c.loop-done.missing.items c.loop-done.invariant.1 c.next_there-next.ensures c.loop-done-test.true r
          w.if-next-done.true refl refl)
      | else-next-done w ↦
          let items : c.if-next-done.missing.items ≡ c.loop-done.missing.items = grind (arith, common_steps) in
          subst (AreMissing (Contains there) (min next volumes)) (sym items)
          (without_gap there done volumes next c.loop-done.missing.items c.loop-done.invariant.1 c.next_there-next.ensures c.loop-done-test.true
          (omega (arith, w.if-next-done.false)))
    ] in
    (omega (arith, least), subst (λ n. AreMissing (Contains there) n c.if-next-done.missing.items) (sym least) missing)
