-- The drives of one thread, and how its seats relate to them. Public contracts cite it.
use Rattle.std.specs.Prelude.{◌≡◌, ℕ, ◌<◌, ◌≤◌, ◌+◌, ◌-◌, ◌^◌, ◌==◌, List, length, slice_index, Option, MatchOption}
use Rattle.drives.specs.declared.holds.TheConstants.{DRIVE_LIMIT}
use Rattle.drives.specs.declared.view.View.{View}
use Rattle.drives.specs.Holding.{has, newcomer}

-- the holder of each drive, or 0, and the last seat number that was assigned
pub record Holders : Type 0 where
  pub numbers : List ℕ
  pub last : ℕ

-- builds Holders from its parts
abbrev pub holders : List ℕ → ℕ → Holders
holders numbers last = record { numbers = numbers; last = last }

-- 1 to DRIVE_LIMIT drives, each held by a seat whose number was assigned, or by none
abbrev pub AreHolders : List ℕ → ℕ → Type 0
AreHolders numbers last = (1 ≤ length numbers) × (length numbers ≤ DRIVE_LIMIT) × ((d : ℕ) → d < length numbers → slice_index numbers d ≤ last)

-- The seat with the view `v` is one of those at the drives with the holders `all`. Its number was
-- assigned. It holds exactly the drives whose holder has that number.
pub record IsSeatOf (all : Holders) (v : View) : Type 0 where
  pub numbered : 1 ≤ v.number
  pub made : v.number ≤ all.last
  pub marks : length v.held ≡ DRIVE_LIMIT
  pub agrees : (d : ℕ) → d < length all.numbers → has v d ≡ (slice_index all.numbers d == v.number)

-- A new seat got the next number and has made no step. If the last number is the greatest u64,
-- there is no new seat and nothing is changed.
abbrev pub IsSeatGiven : Holders → Option View → Holders → Type 0
IsSeatGiven old seat new = MatchOption seat ((old.last ≡ 2 ^ 64 - 1) × (new ≡ old))
    (λ v. (old.last < 2 ^ 64 - 1) × (new ≡ holders old.numbers (old.last + 1)) × (v ≡ newcomer (old.last + 1)))

-- drive d is held by seat n, or by no seat if n is 0
abbrev pub IsHeldBy : Holders → ℕ → ℕ → Type 0
IsHeldBy all d n = (d < length all.numbers) × (slice_index all.numbers d ≡ n)
