use Rattle.hold_table.proofs.Names.{◌≡◌, ℕ, ◌-◌, ◌<◌, ◌≤◌, length, slice_index, DRIVE_LIMIT}
use Rattle.hold_table.proofs.together.words_of.Given as goal

abbrev pub invariant-loop-drive : goal.invariant-loop-drive
invariant-loop-drive l =
    (length l.words ≡ DRIVE_LIMIT)
    × (l.drive ≤ l.closed.words.len)
    × ((d : ℕ) → d < l.drive → slice_index l.words d ≡ slice_index l.closed.words.items d)
    × ((d : ℕ) → l.drive ≤ d → slice_index l.words d ≡ 0)

abbrev pub decreases-loop-drive : goal.decreases-loop-drive
decreases-loop-drive l = l.closed.words.len - l.drive
