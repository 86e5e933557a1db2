use Rattle.rmt_wire.proofs.Words.{ap, arith, refl, subst, sym, ◌∙◌, Unread, raised, Truncated, Input}
use Rattle.rmt_wire.proofs.Streams.{still_come, unread_now, more_came, ended, failed, next_given, next_broken, counts_none}
use Rattle.rmt_wire.proofs.request.reader.RequestReader.read_next.Goals as goal

pub fill-requires : goal.fill-requires
fill-requires g c =
    let u = unread_now c.requires (still_come c.loop-self.invariant.came c.is_waiting.ensures.same) in
    (u.0, u.1, (c.loop-self-test.ensures.more refl u.0 u.1).2)

pub loop-self-preserved : goal.loop-self-preserved
loop-self-preserved g c = record {
  came = more_came c.requires (still_come c.loop-self.invariant.came c.is_waiting.ensures.same) c.in-Ok.ensures.came c.in-Ok.ensures.left
      (c.in-Ok.ensures.limit (omega arith));
  steady = c.in-Ok.ensures.steady ∙ c.loop-self.invariant.steady;
}

pub returns-in-Ok-eq0 : goal.returns-in-Ok-eq0
returns-in-Ok-eq0 g c =
    let came = still_come c.loop-self.invariant.came c.is_waiting.ensures.same in
    let end = c.in-Ok-eq0.ensures.ended c.in-Ok-eq0.field-0-test in
    let none = ended c.requires came _ c.fill.new.stream.left _ end.1
    (λ rest u. ((c.if-is_empty.ensures.value rest (subst (λ h. Unread h rest) (sym end.1.1) u)).0 refl, end.0)) in
    ((refl, λ x. tt, none), record { rests = tt; counted = c.in-Ok-eq0.ensures.steady ∙ c.loop-self.invariant.steady })

pub returns-in-Ok-eq0-2 : goal.returns-in-Ok-eq0-2
returns-in-Ok-eq0-2 g c =
    let came = still_come c.loop-self.invariant.came c.is_waiting.ensures.same in
    let end = c.in-Ok-eq0.ensures.ended c.in-Ok-eq0.field-0-test in
    let truncated = failed c.requires came _ c.fill.new.stream.left _ end.1 Truncated (λ rest u.
    let w = c.loop-self-test.ensures.more refl rest u in
    let some = c.if-is_empty.ensures.value rest (subst (λ h. Unread h rest) (sym end.1.1) u) in
    (λ none. (let never = some.1 none in cc), w.0, w.1, end.0)) in
    ((refl, λ x. tt, truncated), record { rests = tt; counted = c.in-Ok-eq0.ensures.steady ∙ c.loop-self.invariant.steady })

pub returns-in-Err : goal.returns-in-Err
returns-in-Err g c =
    let came = still_come c.loop-self.invariant.came c.is_waiting.ensures.same in
    let input = failed c.requires came _ c.fill.new.stream.left _ c.in-Err.ensures.failed Input
    (λ rest u. (let w = c.loop-self-test.ensures.more refl rest u in (w.0, w.1))) in
    ((refl, λ x. tt, input), record { rests = tt; counted = c.in-Err.ensures.counted ∙ ap raised c.loop-self.invariant.steady })

pub returns-in-Ok-next : goal.returns-in-Ok-next
returns-in-Ok-next g c =
    let came = still_come c.loop-self.invariant.came c.is_waiting.ensures.same in
    let given = next_given c.requires came c.in-Ok-next.given _ (c.loop-self-test.ensures.enough refl) (rw c.in-Ok-next.is at c.next.follows.holds-at-none) in
    ((refl, λ x. tt, given), record { rests = tt; counted = counts_none c.in-Ok-next.given _ _ c.loop-self.invariant.steady })

pub returns-in-Err-next : goal.returns-in-Err-next
returns-in-Err-next g c =
    let came = still_come c.loop-self.invariant.came c.is_waiting.ensures.same in
    let broken = next_broken c.requires came c.in-Err-next.fault _ (rw c.in-Err-next.is at c.next.follows.holds-at-none) in
    ((refl, λ x. tt, broken), record { rests = tt; counted = c.loop-self.invariant.steady })
