use Rattle.hold_table.proofs.Names.{◌≡◌, ◌++◌, All, group_views, views_of, IsSeatAt}
use Rattle.hold_table.proofs.table.HoldTable.gathered.Given as goal

abbrev pub invariant-loop-next : goal.invariant-loop-next
invariant-loop-next l =
    (l.company.table_id ≡ l.self)
    × All (λ s. IsSeatAt l.self s) l.seats.items
    × (views_of l.seats.items ++ group_views l.company.me.0 ≡ views_of l.fn.seats.items)

abbrev pub decreases-loop-next : goal.decreases-loop-next
decreases-loop-next l = goal.left-loop-next l
