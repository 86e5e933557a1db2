use Rattle.std.proofs.Common.{◌≡◌, ◌∙◌, ◌-◌, ap, subst, take, length, arith}
use Rattle.std.proofs.lemmas.List.{take-replicate}
use Rattle.std.specs.Io.KnownBytes.{Appends}
use Rattle.rmt_wire.specs.ReplyWriter.{AppendsBeginning}
use Rattle.restore.proofs.Zeros.{begun_zeros, more_zeros}
use Rattle.restore.specs.Partial.{zeros}
use Rattle.restore.proofs.fill.write_zeros.Goals as goal

pub returns-then-not-print_text : goal.returns-then-not-print_text
returns-then-not-print_text g c =
    let room = c.fill.new.self in
    let size = c.min-size.result in
    let count = c.args.count in
    let left = c.loop-left.left in
    let text : take size room ≡ zeros size = ap (take size) c.loop-left.invariant.zeroed ∙ take-replicate size (length room) 0 (omega arith) in
    let printed = (rw c.if-not-print_text.true at c.print_text.ensures) in
    begun_zeros _ _ _ (count - left) size count c.loop-left.invariant.written (subst (AppendsBeginning _ _) text printed.0) (omega arith)

pub loop-left-preserved : goal.loop-left-preserved
loop-left-preserved g c =
    let room = c.fill.new.self in
    let size = c.min-size.result in
    let count = c.args.count in
    let left = c.loop-left.left in
    let text : take size room ≡ zeros size = ap (take size) c.loop-left.invariant.zeroed ∙ take-replicate size (length room) 0 (omega arith) in
    let printed = (rw c.if-not-print_text.false at c.print_text.ensures) in
    record {
      some = omega arith;
      zeroed = c.loop-left.invariant.zeroed;
      within = omega arith;
      written = more_zeros _ _ _ (count - left) size (count - (left - size)) c.loop-left.invariant.written (subst (Appends _ _) text printed.0) (omega arith);
    }
