use Rattle.std.proofs.Common.{◌≡◌, ◌+◌, ◌++◌, ◌∷◌, [], take, take_all, get_or, sym, subst, arith}
use Rattle.std.proofs.lemmas.Grind.{common_steps}
use Rattle.rdump_list.specs.DumpFound.{AreNumbersOf}
use Rattle.rdump_list.proofs.There.{one_there, none_there}
use Rattle.rdump_list.proofs.catalog_dump.numbers_of.Goals as goal
use Rattle.rdump_list.proofs.catalog_dump.numbers_of.Goals.{then-is_of+in_ok-push, else-is_of}

pub loop-reel-preserved : goal.loop-reel-preserved
loop-reel-preserved c =
    let run = c.args.run.now in
    let reels = c.args.reels.now in
    let i = c.loop-reel.reel-index in
    let reel = c.reel-item.result in
    let item : get_or reels i reel ≡ reel = grind (arith, common_steps) in
    let put = AreNumbersOf run (take (i + 1) reels) in
    elim c.if-is_of.branch [
      | then-is_of+in_ok-push w ↦
          let items : c.if-is_of.numbers.items ≡ c.loop-reel.numbers.items ++ (get_or reels i reel).label.now.volume ∷ [] = grind (arith, common_steps) in
          subst put (sym items)
          (one_there run reels i reel c.loop-reel.numbers.items c.loop-reel-test.true c.loop-reel.invariant (rw item (c.is_of.ensures.0 w.if-is_of.true)))
      | else-is_of w ↦
          let items : c.if-is_of.numbers.items ≡ c.loop-reel.numbers.items = grind (arith, common_steps) in
          subst put (sym items)
          (none_there run reels i reel c.loop-reel.numbers.items c.loop-reel-test.true c.loop-reel.invariant
          (λ is. grind (arith, common_steps)))
    ]

pub returns : goal.returns
returns c = subst (λ reels. AreNumbersOf c.args.run.now reels c.loop-reel.numbers.items)
    (take_all c.loop-reel.reel-index c.args.reels.now (omega (arith, c.loop-reel-test.false))) c.loop-reel.invariant
