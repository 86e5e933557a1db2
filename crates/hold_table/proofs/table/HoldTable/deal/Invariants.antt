use Rattle.hold_table.proofs.Names.{◌≡◌, ◌+◌, ◌-◌, ◌≤◌, [], ◌∷◌, SEAT_LIMIT, newcomer, seated, dealt}
use Rattle.hold_table.proofs.table.HoldTable.deal.Given as goal

abbrev pub invariant-loop-dealt : goal.invariant-loop-dealt
invariant-loop-dealt l =
    (l.dealt ≤ SEAT_LIMIT - 1)
    × (l.seat.table_id ≡ l.self)
    × (l.seat.me ≡ (seated (newcomer (l.dealt + 1)) 0 (SEAT_LIMIT - 1 - l.dealt) ∷ [], []))
    × (l.seats.items ≡ dealt l.self l.dealt)

abbrev pub decreases-loop-dealt : goal.decreases-loop-dealt
decreases-loop-dealt l = SEAT_LIMIT - 1 - l.dealt
