-- What an open of a drive promises. A drive's latched reel is the first of its stack: it is in the
-- drive until it is laid back or moved to the bin. A kind of holds, stacks or reels is a type that
-- implements that trait, with what it promises. `k` has the promises of the kinds of holds, stacks
-- and reels. Public contracts cite it.
use Rattle.std.specs.Prelude.{◌≡◌, ◌≢◌, ℕ, ◌<◌, List, Option, Some, None, Result, Ok, Err, true, false}
use Rattle.tape.specs.Tape.{Tape}
use Rattle.tape.specs.Failures.{Steps}
use Rattle.tape.specs.declared.reel.Reel.{Ghosts as ReelPromise}
use Rattle.drives.specs.declared.fault.DriveFault.{DriveFault}
use Rattle.drives.specs.declared.fault.DriveFault.TheVariants.{NoSuchDrive, Busy, NameTaken}
use Rattle.drives.specs.declared.holds.Holds.{Ghosts as HoldsPromise}
use Rattle.drives.specs.declared.stacks.Stacks.{Ghosts as StacksPromise}
use Rattle.drives.specs.declared.table.DriveTable.{DriveTable}
use Rattle.drives.specs.declared.view.View.{View}
use Rattle.drives.specs.Holding.{has, taken, given, last_drive, holder_after_take}
use Rattle.drives.specs.TapeLibrary.{TapeLibrary, IsDriveNamed}
use Rattle.drives.specs.Calls.{StacksKind, stacks_kind}
use Rattle.drives.specs.Calls.StacksCall.{Latch}
use Rattle.drives.specs.Stacking.{LatchStep, IsStacksCall}

-- what these kinds of holds, stacks and reels promise
pub record Kinds (H Seat S R : Type 0) : Type 1 where
  pub holds : HoldsPromise H Seat
  pub stacks : StacksKind S R
  pub reels : ReelPromise R

-- builds Kinds from the three promises
abbrev pub kinds : {H Seat S R : Type 0} → HoldsPromise H Seat → StacksPromise S R → ReelPromise R → Kinds H Seat S R
kinds holds stacks reels = record {
  holds = holds;
  stacks = stacks_kind stacks.holds stacks.drives stacks.failures stacks.can_fail stacks.makes;
  reels = reels;
}

-- The steps of the seat. It makes none if there is no such drive, and one take if the drive was
-- opened or is busy. It makes a take and a give if no reel could be latched.
abbrev pub SeatStep : {R : Type 0} → Result (ℕ × R) DriveFault → View → View → Type 0
SeatStep (Ok opened) old new = (0 < old.number) × (has old opened.0 ≡ false) × (has new opened.0 ≡ true) × (new ≡ taken old opened.0 0)
SeatStep (Err NoSuchDrive) old new = new ≡ old
SeatStep (Err (Busy n)) old new = (0 < n) × ((d : ℕ) × (new ≡ taken old d n))
SeatStep (Err NameTaken) old new = ⊥
SeatStep (Err fault) old new = (d : ℕ) × (new ≡ given (taken old d 0) d)

-- the drive of the open, which is that of the seat's last step; none if there is no such drive
abbrev pub drive_asked : {R : Type 0} → Result (ℕ × R) DriveFault → View → Option ℕ
drive_asked (Err NoSuchDrive) new = None
drive_asked result new = last_drive new

-- the number that the take found: that of the holder, or 0
abbrev pub found_in_open : {R : Type 0} → Result (ℕ × R) DriveFault → ℕ
found_in_open (Err (Busy n)) = n
found_in_open result = 0

-- who holds drive d after the open by the seat `number`, if n held it before
abbrev pub holder_after_open : {R : Type 0} → Result (ℕ × R) DriveFault → ℕ → ℕ → ℕ → ℕ
holder_after_open (Ok opened) number d n = holder_after_take number opened.0 d n
holder_after_open (Err fault) number d n = n

-- The first error that applies: no drive has that name, the drive is busy, and then the errors of
-- the latch.
abbrev pub OpenStep : {R : Type 0} → (R → Tape → Type 0) → (R → ℕ) → List ℕ → Option ℕ → Result (ℕ × R) DriveFault → TapeLibrary → TapeLibrary → Type 0
OpenStep holds capacity name asked (Ok opened) s now =
    (asked ≡ Some opened.0) × IsDriveNamed name s (Some opened.0) × LatchStep holds capacity opened.0 (Ok opened.1) s now
OpenStep holds capacity name asked (Err NoSuchDrive) s now = IsDriveNamed name s None × (now ≡ s)
OpenStep holds capacity name asked (Err (Busy n)) s now = (d : ℕ) × (asked ≡ Some d) × IsDriveNamed name s (Some d) × (now ≡ s)
OpenStep holds capacity name asked (Err fault) s now =
    (d : ℕ) × (asked ≡ Some d) × IsDriveNamed name s (Some d) × LatchStep holds capacity d (Err fault) s now

-- The call of the stacks: one latch of the drive, but none if there is no such drive or it is busy.
abbrev pub LatchesFor : {H Seat S R : Type 0} → Kinds H Seat S R → S → Option ℕ → Result (ℕ × R) DriveFault → S → Type 0
LatchesFor k old asked (Ok opened) new = IsStacksCall k.stacks k.reels old (Latch opened.0 (Ok opened.1)) new
LatchesFor k old asked (Err NoSuchDrive) new = new ≡ old
LatchesFor k old asked (Err (Busy n)) new = new ≡ old
LatchesFor k old asked (Err fault) new = (d : ℕ) × (asked ≡ Some d) × IsStacksCall k.stacks k.reels old (Latch d (Err fault)) new

-- What an open of the drive with that name does. `result` is its result.
pub record IsOpening {H Seat S R : Type 0} (k : Kinds H Seat S R) (old : DriveTable H S Seat R) (seat : Seat) (name : List ℕ)
    (result : Result (ℕ × R) DriveFault) (new : DriveTable H S Seat R) (seat' : Seat) : Type 0 where
  -- the steps of the seat at the drives
  pub view : SeatStep result (k.holds.shows seat) (k.holds.shows seat')
  pub own : k.holds.belongs new.holds seat'
  -- the take found the holder of the drive, if the holders are specified
  pub asked : (d : ℕ) → drive_asked result (k.holds.shows seat') ≡ Some d → d < k.holds.drives old.holds
  pub found : (d n : ℕ) → drive_asked result (k.holds.shows seat') ≡ Some d → k.holds.tells old.holds d n → found_in_open result ≡ n
  pub told : (d n : ℕ) → k.holds.tells old.holds d n
      → k.holds.tells new.holds d (holder_after_open result (k.holds.shows seat).number d n)
  -- other seats hold what they held before
  pub others : (s : Seat) → (k.holds.shows s).number ≢ (k.holds.shows seat).number
      → k.holds.belongs old.holds s → k.holds.belongs new.holds s
  pub same_holds : k.holds.drives new.holds ≡ k.holds.drives old.holds
  pub same_seats : k.holds.seated new.holds ≡ k.holds.seated old.holds
  -- the effect on the contents of the stacks, and the call of the stacks
  pub step : Steps k.stacks.holds old.stacks new.stacks
      (OpenStep k.reels.holds k.reels.capacity name (drive_asked result (k.holds.shows seat')) result)
  pub call : LatchesFor k old.stacks (drive_asked result (k.holds.shows seat')) result new.stacks
