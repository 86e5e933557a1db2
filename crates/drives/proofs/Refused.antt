-- An open whose latch is refused.
use Rattle.std.proofs.Common.{◌≡◌, ℕ, List, Some, Err, refl, ap, arith}
use Rattle.std.proofs.lemmas.Bool.Decides.{nat_tests}
use Rattle.drives.proofs.Names.{DriveFault, NoSuchDrive, Busy, NameTaken, View, given, taken, last_drive, holder_after_take, holder_after_give, TapeLibrary}
use Rattle.drives.proofs.Names.{IsDriveNamed, Latch, IsStacksCall, Kinds, SeatStep, drive_asked, found_in_open, OpenStep, LatchesFor, Steps}

-- what follows where the latch of drive d, which the seat took and gave back, was refused
pub record IsRefused {H S Seat R : Type 0} (k : Kinds H Seat S R) (view view' : View) (name : List ℕ) (old new : S) (d : ℕ) (fault : DriveFault) : Type 0 where
  pub seat : SeatStep {R = R} (Err fault) view view'
  pub asked : drive_asked {R = R} (Err fault) view' ≡ Some d
  pub found : found_in_open {R = R} (Err fault) ≡ 0
  pub step : Steps k.stacks.holds old new (OpenStep k.reels.holds k.reels.capacity name (drive_asked {R = R} (Err fault) view') (Err fault))
  pub call : LatchesFor k old (drive_asked {R = R} (Err fault) view') (Err fault) new

pub latch_refused : {H S Seat R : Type 0} (k : Kinds H Seat S R) (view view' : View) (name : List ℕ) (old new : S) (d : ℕ) (fault : DriveFault)
    → view' ≡ given (taken view d 0) d → ((s : TapeLibrary) → k.stacks.holds old s → IsDriveNamed name s (Some d))
    → IsStacksCall k.stacks k.reels old (Latch d (Err fault)) new → IsRefused k view view' name old new d fault
latch_refused k view view' name old new d NoSuchDrive v named call = absurd (grind (arith, call.can))
latch_refused k view view' name old new d (Busy n) v named call = absurd (grind (arith, call.can))
latch_refused k view view' name old new d NameTaken v named call = absurd (grind (arith, call.can))
latch_refused k view view' name old new d _ v named call =
    let last : last_drive view' ≡ Some d = ap last_drive v in
    record { seat = (d, v); asked = last; found = refl; step = λ s h. (let n = call.step s h in (n.0, n.1, (d, last, named s h, n.2))); call = (d, last, call) }

-- who holds a drive after a take that found it free and a give of it
pub word_given_back : (number d e n : ℕ) → (e ≡ d → 0 ≡ n) → holder_after_give d e (holder_after_take number d e n) ≡ n
word_given_back number d e n free = grind (arith, nat_tests)
