use Rattle.rmt_wire.proofs.Words.{Some, ap, drop, subst, sym, ℕ, ◌+◌, ◌∙◌, ◌≡◌, dropped_line, IsKnown, write_line}
use Rattle.rmt_wire.proofs.WriteLines.{write_stays, dropped_same, dropped_found_of}
use Rattle.rmt_wire.proofs.Dropped.{within_some}
use Rattle.rmt_wire.proofs.Nexts.{left_behind, has_discarded, seen_from}
use Rattle.rmt_wire.proofs.request.reader.discard_data.Goals as goal

pub returns-clause-discardable : goal.returns-clause-discardable
returns-clause-discardable c =
    let old = c.args.buffer.now.items in
    let seen = seen_from c.as_slice.result.now old c.as_slice.ensures c.args.start in
    let found : dropped_line (drop c.args.start old) ≡ Some (c.in-Some.len, c.in-Some.count) =
    dropped_found_of _ _ _ _ seen c.line_of.ensures.value c.dropped_line.ensures ∙ c.in-Some.is in
    has_discarded old c.remove.new.buffer.items c.args.start c.args.dropped.now c.min-discardable.result (c.in-Some.len, c.in-Some.count) c.requires.start found
    (within_some _ _ _ found c.requires.dropped) (rw (← seen) c.min-discardable.ensures) c.remove.ensures.items

pub returns-clause-line : goal.returns-clause-line
returns-clause-line c =
    let old = c.args.buffer.now.items in
    let kept = drop c.args.start old in
    let line : ℕ × ℕ = (c.in-Some.len, c.in-Some.count) in
    let seen = seen_from c.as_slice.result.now old c.as_slice.ensures c.args.start in
    let found : dropped_line kept ≡ Some line = dropped_found_of _ _ _ _ seen c.line_of.ensures.value c.dropped_line.ensures ∙ c.in-Some.is in
    let same = (dropped_same c.line_of.result line (sym c.dropped_line.ensures ∙ c.in-Some.is)).0 in
    let here : write_line kept ≡ Some line = ap write_line (sym seen) ∙ sym c.line_of.ensures.value ∙ same in
    let new = left_behind old c.remove.new.buffer.items c.args.start c.args.dropped.now c.min-discardable.result line c.requires.start found
    (within_some _ _ _ found c.requires.dropped)
    (rw (← seen) c.min-discardable.ensures) c.remove.ensures.items in
    subst (λ o. IsKnown o (drop c.args.start c.remove.new.buffer.items)) (sym same)
    (ap write_line new ∙ write_stays kept line here (drop (c.in-Some.len + c.min-discardable.result) kept))
