-- What a seat at the drives knows, and what each of its steps does. A step is a take, a give, or a
-- look, which only reads who holds the drive. Public contracts cite it.
use Rattle.std.specs.Prelude.{◌≡◌, ℕ, ◌<◌, ◌↔◌, Bool, IsTrue, true, false, cond, ◌==◌, List, replicate, slice_set, slice_index_or, Option, Some, None}
use Rattle.tape.specs.Failures.{counted}
use Rattle.drives.specs.declared.holds.TheConstants.{DRIVE_LIMIT}
use Rattle.drives.specs.declared.view.StepKind.{StepKind}
use Rattle.drives.specs.declared.view.StepKind.TheVariants.{Take, Give, Look}
use Rattle.drives.specs.declared.view.LastStep.{LastStep}
use Rattle.drives.specs.declared.view.View.{View}
use Rattle.drives.specs.declared.taken.Taken.{Taken}
use Rattle.drives.specs.declared.taken.Taken.TheVariants.{Held, Busy}

-- the seat holds the drive
abbrev pub has : View → ℕ → Bool
has v d = slice_index_or v.held d false

-- the seat holds exactly this drive, or no drive if it is None
abbrev pub HoldsJust : View → Option ℕ → Type 0
HoldsJust v drive = (d : ℕ) → IsTrue (has v d) ↔ (drive ≡ Some d)

-- builds a LastStep from its parts
abbrev pub last_step : StepKind → ℕ → ℕ → LastStep
last_step kind drive found = record { kind = kind; drive = drive; found = found }

-- the view of a new seat: it holds no drive and has made no step
abbrev pub newcomer : ℕ → View
newcomer number = record { number = number; held = replicate DRIVE_LIMIT false; steps = 0; last = None }

-- the view after one more step, with these marks of the drives that it holds
abbrev pub moved : View → List Bool → LastStep → View
moved v held step = record { number = v.number; held = held; steps = counted v.steps; last = Some step }

-- the view after a take of d that found n
abbrev pub taken : View → ℕ → ℕ → View
taken v d n = moved v (cond (n == 0) (slice_set v.held d true) v.held) (last_step Take d n)

-- the view after d was given back; a give finds the seat's own number
abbrev pub given : View → ℕ → View
given v d = moved v (slice_set v.held d false) (last_step Give d v.number)

-- the view after a look at d that found n
abbrev pub looked : View → ℕ → ℕ → View
looked v d n = moved v v.held (last_step Look d n)

-- the number that the take found: that of the holder, or 0
abbrev pub found_by : Taken → ℕ
found_by Held = 0
found_by (Busy n) = n

-- If the take returned Held, the seat did not hold the drive before and holds it now. If it
-- returned Busy, the number in it is not 0.
abbrev pub TakeAnswers : Taken → View → View → ℕ → Type 0
TakeAnswers Held old new d = (0 < old.number) × (has old d ≡ false) × (has new d ≡ true)
TakeAnswers (Busy n) old new d = 0 < n

-- who holds drive d after the seat `number` took `drive`, if n held d before
abbrev pub holder_after_take : ℕ → ℕ → ℕ → ℕ → ℕ
holder_after_take number drive d n = cond (d == drive) (cond (n == 0) number n) n

-- who holds drive d after `drive` was given back, if n held d before
abbrev pub holder_after_give : ℕ → ℕ → ℕ → ℕ
holder_after_give drive d n = cond (d == drive) 0 n

-- the drive of a step, if there was one
abbrev pub drive_of_step : Option LastStep → Option ℕ
drive_of_step None = None
drive_of_step (Some step) = Some step.drive

-- the drive of the seat's last step
abbrev pub last_drive : View → Option ℕ
last_drive v = drive_of_step v.last
