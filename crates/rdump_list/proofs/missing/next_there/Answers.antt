use Rattle.std.proofs.Common.{ℕ, ◌+◌, take, sym, subst, arith}
use Rattle.rdump_list.specs.DumpFound.{IsLeastFrom}
use Rattle.rdump_list.proofs.Ranges.{taken, passed}
use Rattle.rdump_list.proofs.missing.next_there.Goals as goal
use Rattle.rdump_list.proofs.missing.next_there.Goals.{then-number-from+then-number-next, else-number-from, else-number-from-via-then-number-from+else-number-next, else-number-from-via-else-number-from}

pub loop-number-preserved : goal.loop-number-preserved
loop-number-preserved c =
    let there = c.args.there.now in
    let i = c.loop-number.number-index in
    let put = λ (n : ℕ). IsLeastFrom (take (i + 1) there) c.args.from c.args.volumes n in
    elim c.if-number-from.branch [
      | then-number-from+then-number-next w ↦
          subst put (sym w.next-is)
          (taken there i c.args.from c.args.volumes c.loop-number.next c.loop-number-test.true c.loop-number.invariant
          w.if-number-from.true w.if-number-next.true)
      | else-number-from w ↦
          subst put (sym w.next-is)
          (passed there i c.args.from c.args.volumes c.loop-number.next c.loop-number-test.true c.loop-number.invariant
          (λ reached. elim w.else-number-from.branch [
            | else-number-from-via-then-number-from+else-number-next x ↦ omega (arith, x.if-number-next.false)
            | else-number-from-via-else-number-from x ↦ omega (arith, x.if-number-from.false, reached)
          ]))
    ]
