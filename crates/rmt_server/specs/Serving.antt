-- The requests that the open reel serves: writes, reads, and the operations of mtio except MTOFFL.
-- Public contracts depend on it (through Carrying).
use Rattle.std.specs.Prelude.{◌≡◌, Option, Some, None, MatchOption}
use Rattle.rmt_wire.specs.Request.{PlainRequest}
use Rattle.rmt_wire.specs.Reply.{PlainReply}
use Rattle.tape.specs.Tape.{TapeAnswer}
use Rattle.tape.specs.declared.reel.Reel.{Ghosts as ReelPromise}
use Rattle.drives.specs.Opening.{Kinds}
use Rattle.rmt_server.specs.declared.session.session_state.Opened.{Opened}
use Rattle.rmt_server.specs.Refusals.{refused}
use Rattle.rmt_server.specs.Session.{refusal, reel_reply, tape_request}
use Rattle.rmt_server.specs.State.{State, status_at, IsReelCall}

-- The request is one call of the reel of `device`, which is open. The call's answer gives the
-- reply, and only the reel changes. If the device has no reel, this does not hold.
abbrev pub CallsReelOf : {R : Type 0} → ReelPromise R → Opened R → Option R → Option (Opened R) → PlainRequest → PlainReply → Type 0
CallsReelOf r device None new request reply = ⊥
CallsReelOf {R} r device (Some reel) new request reply =
    (answer : TapeAnswer) × (moved : R) × (new ≡ Some (record device { reel = Some moved })) × (reply ≡ reel_reply request answer)
    × IsReelCall r reel (tape_request request) answer moved

-- The request is one call of the reel of the open device. The call's answer gives the reply, and
-- only the reel changes. If no device is open, or if it has no reel, this does not hold.
abbrev pub CallsOpenReel : {R : Type 0} → ReelPromise R → Option (Opened R) → Option (Opened R) → PlainRequest → PlainReply → Type 0
CallsOpenReel r None new request reply = ⊥
CallsOpenReel r (Some device) new request reply = CallsReelOf r device device.reel new request reply

-- A request that the open reel serves. If a check refuses it, nothing is done. Otherwise there is
-- one call of the reel.
abbrev pub ReelServes : {R : Type 0} → ReelPromise R → Option (Opened R) → Option (Opened R) → PlainRequest → PlainReply → Type 0
ReelServes r old new request reply =
    MatchOption (refusal (status_at old) request) (CallsOpenReel r old new request reply)
    (λ refusal. (reply ≡ refused refusal) × (new ≡ old))

-- A request that the open reel serves. If a check refuses it, nothing is done. Otherwise there is
-- one call of the reel. The drives and the seat are unchanged.
abbrev pub Serves : {H S Seat R : Type 0} → Kinds H Seat S R → State H S Seat R → PlainRequest → PlainReply → State H S Seat R → Type 0
Serves k old request reply new =
    (new.drives ≡ old.drives) × (new.seat ≡ old.seat) × ReelServes k.reels old.opened new.opened request reply
