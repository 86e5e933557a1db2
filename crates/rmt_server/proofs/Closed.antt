-- The drive that a seat holds after its steps, and the effect of closing on the stacks.
use Rattle.std.proofs.Common.{◌≡◌, ◌≢◌, ◌⊎◌, ℕ, false, slice_set, Option, Some, None, arith, length-set, get_or-set_same, get_or-set_other}
use Rattle.std.proofs.lemmas.List.{get_or_past}
use Rattle.rmt_server.proofs.Names.{ReelPromise, StacksKind, TapeLibrary, HasLatched, ReelCanFail, Access, PlainSession, closed_library, State, IsAt}
use Rattle.rmt_server.proofs.Names.{IsSeenWith, Opened, HoldsJust, given, holder_after_give, Kinds, View, LaysBack, IsClosed}

-- after its one drive was given back a seat holds none
HoldsJust_given : (v : View) (d : ℕ) → HoldsJust v (Some d) → HoldsJust (given v d) None
HoldsJust_given v d h e =
    let same = get_or-set_same v.held d false false in
    let other = get_or-set_other v.held d e false false in
    let past = get_or_past (slice_set v.held d false) d false in
    grind (arith, same, other, past, length-set v.held d false, h e)

-- what laying a reel back keeps
pub record IsLaid {S R : Type 0} (s : StacksKind S R) (r : ReelPromise R) (old : S) (drive : ℕ) (reel : Option R) (new : S) : Type 0 where
  pub same_drives : s.drives new ≡ s.drives old
  pub unfailed : s.failures new ≡ s.failures old
  pub elsewhere : (d : ℕ) → d ≢ drive → HasLatched s.holds old d → HasLatched s.holds new d
  pub quiet : s.can_fail new → s.can_fail old ⊎ ReelCanFail r reel
  pub step : (access : Access) (library : TapeLibrary) (session : PlainSession) → s.holds old library → IsSeenWith r drive access reel session
      → s.holds new (closed_library library session)

pub laid_kept : {S R : Type 0} (s : StacksKind S R) (r : ReelPromise R) (old : S) (drive : ℕ) (reel : Option R) (new : S)
    → LaysBack s r old drive reel new → IsLaid s r old drive reel new
laid_kept s r old drive reel new l = grind arith

-- what was open is closed: its reel was laid back, and its drive given back
pub closed_by : {H S Seat R : Type 0} (k : Kinds H Seat S R) (old new : State H S Seat R) (device : Opened R) → IsAt k old
    → old.opened ≡ Some device → new.opened ≡ None
    → LaysBack k.stacks k.reels old.drives.stacks device.drive device.reel new.drives.stacks
    → k.holds.shows new.seat ≡ given (k.holds.shows old.seat) device.drive
    → ((d n : ℕ) → k.holds.tells old.drives.holds d n → k.holds.tells new.drives.holds d (holder_after_give device.drive d n))
    → k.holds.belongs new.drives.holds new.seat
    → ((s : Seat) → (k.holds.shows s).number ≢ (k.holds.shows old.seat).number → k.holds.belongs old.drives.holds s
    → k.holds.belongs new.drives.holds s)
    → k.holds.drives new.drives.holds ≡ k.holds.drives old.drives.holds → k.holds.seated new.drives.holds ≡ k.holds.seated old.drives.holds
    → IsClosed k old new
closed_by k old new device at o none laid view told own others same_holds same_seats =
    let kept = laid_kept k.stacks k.reels old.drives.stacks device.drive device.reel new.drives.stacks laid in
    grind (arith, HoldsJust_given (k.holds.shows old.seat) device.drive, kept)
