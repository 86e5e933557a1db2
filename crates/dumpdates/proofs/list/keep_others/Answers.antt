use Rattle.dumpdates.proofs.Terms.{◌<◌, length, arith, ◌∙◌, sym, get_or, not_from_true, not_from_false, get_or_default, FiltersInPlace-more_no, FiltersInPlace-more_swap}
use Rattle.dumpdates.proofs.list.keep_others.Goals as goal
use Rattle.dumpdates.proofs.list.keep_others.Goals.{then-not-is_same, else-not-is_same}

pub loop-at-preserved : goal.loop-at-preserved
loop-at-preserved c =
    let within : c.loop-at.at < length c.loop-at.entries = omega arith in let other = c.index-entries-at.result in
    let read = get_or_default c.loop-at.entries c.loop-at.at other (get_or c.loop-at.entries c.loop-at.at other) within in
    elim c.if-not-is_same.branch [
      | then-not-is_same w ↦
          rw (w.entries-is, w.kept-is) (FiltersInPlace-more_swap c.loop-at.invariant within
          (not_from_false _ (sym c.is_same.ensures ∙ w.if-not-is_same.true)) read w.swap.ensures.by_index)
      | else-not-is_same w ↦
          rw (w.entries-is, w.kept-is) (FiltersInPlace-more_no c.loop-at.invariant within
          (not_from_true _ (sym c.is_same.ensures ∙ w.if-not-is_same.false)) read)
    ]
