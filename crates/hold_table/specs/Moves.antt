-- Who holds a drive before and after one atomic step. The word of a drive is the number of the seat
-- that holds it, or 0 if none does.
use Rattle.std.specs.Prelude.{◌≡◌, ◌≢◌, ◌⊎◌, ℕ, ◌+◌, ◌<◌, length, slice_set}
use Rattle.drives.specs.declared.view.StepKind.{StepKind}
use Rattle.drives.specs.declared.view.StepKind.TheVariants.{Take, Give, Look}
use Rattle.drives.specs.declared.view.View.{View}
use Rattle.hold_table.specs.Rule.{seated, IsHolder, IsRuledStep}

-- In a step by the seat `number`, its drive is held by n before it and by m after it, where 0 is
-- nobody. A take moves a free drive to the seat, and a give moves the seat's drive to nobody.
-- Otherwise the drive keeps its holder.
abbrev pub Moves : StepKind → ℕ → ℕ → ℕ → Type 0
Moves Take number n m = ((n ≡ 0) × (m ≡ number)) ⊎ ((n ≢ 0) × (m ≡ n))
Moves Give number n m = (n ≡ number) × (m ≡ 0)
Moves Look number n m = m ≡ n

-- drive e is held by n before a step on drive d and by m after it; any drive other than d keeps its
-- holder
abbrev pub MovesAt : StepKind → ℕ → ℕ → ℕ → ℕ → ℕ → Type 0
MovesAt kind number d e n m = (e ≡ d → Moves kind number n m) × (e ≢ d → m ≡ n)

-- Each step that finds `found` in the word of drive d and leaves `left` there changes the holder of
-- drive d as a step of this kind does. Any other drive keeps its holder.
abbrev pub StepMoves : StepKind → ℕ → View → ℕ → ℕ → ℕ → View → Type 0
StepMoves kind d old made found left new = (step : IsRuledStep d old made found left new) (e n m : ℕ) → e < length step.words
    → IsHolder step.seats e n → IsHolder (slice_set step.seats step.place (seated new (made + 1) step.spare)) e m
    → MovesAt kind old.number d e n m
