-- A session either refused a request by a check, or made one call for it.
use Rattle.std.proofs.Common.{◌≡◌, ◌⊎◌, ℕ, Option, Some, None, MatchOption, Result, Bool, IsTrue, List, true, false, not, refl, inl, inr, arith}
use Rattle.rmt_server.proofs.Names.{PlainRequest, Close, Op, PlainReply, Done, Open, is_offline, TapeAnswer, ReelPromise, DriveFault, Kinds, Refusal}
use Rattle.rmt_server.proofs.Names.{Opened, refused, PlainSession, refusal, tape_request, reel_reply, status_of, move_reply, State, status_at}
use Rattle.rmt_server.proofs.Names.{IsViewedAs, IsReelCall, IsClosed, Closes, IsTakenOff, MovesIn, MovesReel, MovesOff, CallsReelOf, CallsOpenReel}
use Rattle.rmt_server.proofs.Names.{ReelServes, Serves, Operates, CarriesOut}
use Rattle.rmt_server.specs.Opening.{OpensDevice}

-- whether the open reel serves the request
abbrev pub is_of_reel : PlainRequest → Bool
is_of_reel (Open device mode) = false
is_of_reel Close = false
is_of_reel (Op op count) = not (is_offline op)
is_of_reel request = true

-- this check refused the request, and nothing changed
abbrev pub IsRefused : {X : Type 0} → Option Refusal → PlainReply → X → X → Type 0
IsRefused by reply old new = (x : Refusal) × (by ≡ Some x) × (reply ≡ refused x) × (new ≡ old)

-- the open reel was called once
pub record IsCalled {R : Type 0} (r : ReelPromise R) (old new : Option (Opened R)) (request : PlainRequest) (reply : PlainReply) : Type 0 where
  pub device : Opened R
  pub reel : R
  pub answer : TapeAnswer
  pub moved : R
  pub free : refusal (status_at old) request ≡ None
  pub opens : old ≡ Some (record device { reel = Some reel })
  pub after : new ≡ Some (record device { reel = Some moved })
  pub replied : reply ≡ reel_reply request answer
  pub call : IsReelCall r reel (tape_request request) answer moved

module _ {R : Type 0} (r : ReelPromise R) (old new : Option (Opened R)) (request : PlainRequest) (reply : PlainReply) where
  called : (device : Opened R) (lying : Option R) → refusal (status_at old) request ≡ None → old ≡ Some (record device { reel = lying })
      → CallsReelOf r device lying new request reply → IsCalled r old new request reply
  called device None free o call = absurd call
  called device (Some reel) free o (answer, moved, n, p, call) =
      record { device = device; reel = reel; answer = answer; moved = moved; free = free; opens = o; after = n; replied = p; call = call }

  serves_by : (by : Option Refusal) (opened : Option (Opened R)) → refusal (status_at old) request ≡ by → old ≡ opened
      → MatchOption by (CallsOpenReel r opened new request reply) (λ x. (reply ≡ refused x) × (new ≡ old))
      → IsRefused (refusal (status_at old) request) reply old new ⊎ IsCalled r old new request reply
  serves_by (Some x) opened is o (e, n) = inl (x, is, e, n)
  serves_by None None free o call = absurd call
  serves_by None (Some device) free o call = inr (called device device.reel free o call)

  -- a request that the open reel serves
  pub serves_is : ReelServes r old new request reply → IsRefused (refusal (status_at old) request) reply old new ⊎ IsCalled r old new request reply
  serves_is serves = serves_by (refusal (status_at old) request) old refl refl serves

-- the open reel was moved to the bin, or stayed
pub record IsMoved {H S Seat R : Type 0} (k : Kinds H Seat S R) (old new : State H S Seat R) (op count : ℕ) (reply : PlainReply) : Type 0 where
  pub device : Opened R
  pub reel : R
  pub result : Result (Unit {0}) DriveFault
  pub free : refusal (status_at old.opened) (Op op count) ≡ None
  pub opens : old.opened ≡ Some (record device { reel = Some reel })
  pub replied : reply ≡ move_reply count result
  pub taken : IsTakenOff k old device reel result new

module _ {H S Seat R : Type 0} (k : Kinds H Seat S R) (old new : State H S Seat R) (reply : PlainReply) where
  moved : (op count : ℕ) (device : Opened R) (lying : Option R) → refusal (status_at old.opened) (Op op count) ≡ None
      → old.opened ≡ Some (record device { reel = lying }) → MovesIn k old device lying count reply new → IsMoved k old new op count reply
  moved op count device None free o m = absurd m
  moved op count device (Some reel) free o (result, p, m) =
      record { device = device; reel = reel; result = result; free = free; opens = o; replied = p; taken = m }

  moves_by : (op count : ℕ) (by : Option Refusal) (opened : Option (Opened R)) → refusal (status_at old.opened) (Op op count) ≡ by
      → old.opened ≡ opened
      → MatchOption by (MovesReel k old opened count reply new) (λ x. (reply ≡ refused x) × (new ≡ old))
      → IsRefused (refusal (status_at old.opened) (Op op count)) reply old new ⊎ IsMoved k old new op count reply
  moves_by op count (Some x) opened is o (e, n) = inl (x, is, e, n)
  moves_by op count None None free o m = absurd m
  moves_by op count None (Some device) free o m = inr (moved op count device device.reel free o m)

  -- MTOFFL
  pub moves_is : (op count : ℕ) → MovesOff k old op count reply new
      → IsRefused (refusal (status_at old.opened) (Op op count)) reply old new ⊎ IsMoved k old new op count reply
  moves_is op count m = moves_by op count (refusal (status_at old.opened) (Op op count)) old.opened refl refl m

  -- a close
  pub closes_is : Closes k old reply new
      → IsRefused (refusal (status_at old.opened) Close) reply old new
      ⊎ ((refusal (status_at old.opened) Close ≡ None) × (reply ≡ Done 0) × IsClosed k old new)
  closes_is c = grind arith

-- what holds of each kind of request that was carried out holds of each
module _ {H S Seat R : Type 0} {k : Kinds H Seat S R} {old new : State H S Seat R} {reply : PlainReply} (P : PlainRequest → Type 0)
    (opens : (device : List ℕ) (mode : ℕ) → OpensDevice k old device mode reply new → P (Open device mode))
    (closes : Closes k old reply new → P Close)
    (moves : (op count : ℕ) → is_offline op ≡ true → MovesOff k old op count reply new → P (Op op count))
    (serves : (request : PlainRequest) → IsTrue (is_of_reel request) → Serves k old request reply new → P request) where
  -- an operation, which is MTOFFL or not
  op_by : (offline : Bool) (op count : ℕ) → is_offline op ≡ offline → Operates k offline old op count reply new → P (Op op count)
  op_by true op count off m = moves op count off m
  op_by false op count off s = serves (Op op count) (rw off refl) s

  pub carried_by : (request : PlainRequest) → CarriesOut k old request reply new → P request
  carried_by (Open device mode) c = opens device mode c
  carried_by Close c = closes c
  carried_by (Op op count) c = op_by (is_offline op) op count refl c
  carried_by request c = serves request refl c

-- the checks see of a session what they see of what is open
pub status_seen : {R : Type 0} (r : ReelPromise R) (opened : Option (Opened R)) (session : PlainSession) → IsViewedAs r opened session
    → status_of session ≡ status_at opened
status_seen r opened session seen = grind arith
