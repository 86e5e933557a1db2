-- An open that is carried out, as it is seen where the stacks tell.
use Rattle.std.proofs.Common.{◌≡◌, ℕ, Bool, true, false, IsTrue, List, [], Option, Result, Ok, Err, refl, arith}
use Rattle.rmt_server.proofs.Names.{Tape, tape, ReelPromise, Access, DriveFault, Device, TapeLibrary, Kinds, OpenStep, LatchesFor, PlainReel}
use Rattle.rmt_server.proofs.Names.{plain_reel, session_after, IsViewedAs, opened_by}
use Rattle.tape.specs.Failures.{HasRisen}

-- the stacks' device is at fault
abbrev pub is_device : {R : Type 0} → Result (ℕ × R) DriveFault → Bool
is_device (Err Device) = true
is_device result = false

-- then the latch counted a failure, and the stacks could fail
pub latch_failed : {H S Seat R : Type 0} (k : Kinds H Seat S R) (old : S) (asked : Option ℕ) (result : Result (ℕ × R) DriveFault) (new : S)
    → LatchesFor k old asked result new → IsTrue (is_device result) → HasRisen (k.stacks.failures old) (k.stacks.failures new) × k.stacks.can_fail old
latch_failed k old asked result new call t = grind arith

-- what an open answered, if its reel has this tape
abbrev pub plainly : {R : Type 0} → ReelPromise R → Tape → Result (ℕ × R) DriveFault → Result (ℕ × PlainReel) DriveFault
plainly r t (Ok opened) = Ok (opened.0, plain_reel t (r.capacity opened.1))
plainly r t (Err fault) = Err fault

-- what an open answered and left, as it is seen
pub open_seen : {R : Type 0} (r : ReelPromise R) (device : List ℕ) (access : Access) (asked : Option ℕ) (result : Result (ℕ × R) DriveFault)
    (library library' : TapeLibrary) → OpenStep r.holds r.capacity device asked result library library'
    → (t : Tape) × OpenStep (λ (reel : PlainReel) (u : Tape). reel.tape ≡ u) (λ (reel : PlainReel). reel.capacity) device asked
    (plainly r t result) library library'
    × IsViewedAs r (opened_by access result) (session_after access (plainly r t result))
open_seen r device access asked (Ok opened) library library' h =
    (tape [] h.2.0.entries, (h.0, h.1, (h.2.0, h.2.1, h.2.2, refl, h.2.4)), (tape [] h.2.0.entries, h.2.3, refl))
open_seen r device access asked (Err fault) library library' h = (tape [] [], grind arith, refl)
