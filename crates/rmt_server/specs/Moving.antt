-- How a session moves the open reel to the bin. `k` has the promises of the kinds of holds, stacks
-- and reels. Public contracts depend on it (through Carrying).
use Rattle.std.specs.Prelude.{◌≡◌, ℕ, Option, Some, None, MatchOption, Result, Ok, Err}
use Rattle.rmt_wire.specs.Request.PlainRequest.{Op}
use Rattle.rmt_wire.specs.Reply.{PlainReply}
use Rattle.tape.specs.Tape.TapeRequest.{Rewind}
use Rattle.tape.specs.Tape.TapeAnswer.{Done as Did}
use Rattle.drives.specs.declared.fault.DriveFault.{DriveFault}
use Rattle.drives.specs.Calls.StacksCall.{Move}
use Rattle.drives.specs.Stacking.{IsStacksCall}
use Rattle.drives.specs.Opening.{Kinds}
use Rattle.rmt_server.specs.declared.session.session_state.Opened.{Opened}
use Rattle.rmt_server.specs.Refusals.{refused}
use Rattle.rmt_server.specs.Session.{refusal, move_reply}
use Rattle.rmt_server.specs.State.{State, status_at, IsReelCall}

-- the reel that stays open after a move: none if it was moved, otherwise the reel
abbrev pub reel_left : {R : Type 0} → Result Unit DriveFault → R → Option R
reel_left (Ok done) reel = None
reel_left (Err why) reel = Some reel

-- The open reel was rewound, and then moved to the bin or kept. The drive stays held.
pub record IsTakenOff {H S Seat R : Type 0} (k : Kinds H Seat S R) (old : State H S Seat R) (device : Opened R) (reel : R)
    (result : Result Unit DriveFault) (new : State H S Seat R) : Type 0 where
  pub rested : R
  pub rewound : IsReelCall k.reels reel Rewind Did rested
  pub call : IsStacksCall k.stacks k.reels old.drives.stacks (Move device.drive rested result) new.drives.stacks
  pub opens : new.opened ≡ Some (record device { reel = reel_left result rested })
  pub same_holds : new.drives.holds ≡ old.drives.holds
  pub same_seat : new.seat ≡ old.seat

-- the reel of this open device is moved, and the result of the move decides the reply
abbrev pub MovesIn : {H S Seat R : Type 0} → Kinds H Seat S R → State H S Seat R → Opened R → Option R → ℕ → PlainReply
    → State H S Seat R → Type 0
MovesIn k old device None count reply new = ⊥
MovesIn k old device (Some reel) count reply new =
    (result : Result Unit DriveFault) × (reply ≡ move_reply count result) × IsTakenOff k old device reel result new

-- The reel of the open device is moved, and the result of the move decides the reply. If no device
-- is open, or if it has no reel, this does not hold.
abbrev pub MovesReel : {H S Seat R : Type 0} → Kinds H Seat S R → State H S Seat R → Option (Opened R) → ℕ → PlainReply
    → State H S Seat R → Type 0
MovesReel k old None count reply new = ⊥
MovesReel k old (Some device) count reply new = MovesIn k old device device.reel count reply new

-- MTOFFL. If a check refuses it, nothing is done. Otherwise there is one attempt to move the open
-- reel to the bin.
abbrev pub MovesOff : {H S Seat R : Type 0} → Kinds H Seat S R → State H S Seat R → ℕ → ℕ → PlainReply → State H S Seat R → Type 0
MovesOff k old op count reply new =
    MatchOption (refusal (status_at old.opened) (Op op count)) (MovesReel k old old.opened count reply new)
    (λ refusal. (reply ≡ refused refusal) × (new ≡ old))
