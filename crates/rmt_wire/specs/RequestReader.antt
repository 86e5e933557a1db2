-- The state of a reader of requests. A plain value is what contracts use for a value that the code
-- has in memory. The front of the reader is the first of the bytes that it keeps. Public contracts
-- cite it.
use Rattle.std.specs.Prelude.{◌≡◌, ◌≤◌, ℕ, ◌+◌, ◌-◌, ◌==◌, ◌<◌, if◌then◌else◌, nat_lt, min, List, [], ◌∷◌, ◌++◌, length, take, drop, Option, Some, None, Result, Ok, Err}
use Rattle.rmt_wire.specs.Request.{PlainRequest}
use Rattle.rmt_wire.specs.declared.limits.TheConstants.{READER_LIMIT}
use Rattle.rmt_wire.specs.declared.limits.TheConstants.{RECORD_LIMIT}
use Rattle.rmt_wire.specs.RequestParts.{ParsesAs, IsRequestPrefix, HasNoSpelling, HasFault, Spelled}
use Rattle.rmt_wire.specs.Parsed.{Parsed, number_front}
use Rattle.rmt_wire.specs.Lent.{plain_request}
use Rattle.rmt_wire.specs.declared.request.Request.{Request}
use Rattle.rmt_wire.specs.declared.fault.WireFault.{WireFault}
use Rattle.rmt_wire.specs.declared.number.Place.TheVariants as places

-- the length of a write's line and its count, if the write is to be dropped
abbrev pub dropped_if_long : Parsed (ℕ × ℕ) → Option (ℕ × ℕ)
dropped_if_long (Ok (Some count)) = if nat_lt RECORD_LIMIT count.0 then Some (count.1 + 2, count.0) else None
dropped_if_long (Ok None) = None
dropped_if_long (Err fault) = None

-- if the bytes begin with a write that is to be dropped, the length of its line and its count
unfoldable pub dropped_line : List ℕ → Option (ℕ × ℕ)
dropped_line [] = None
dropped_line (letter ∷ bytes) = if letter == 87 then dropped_if_long (number_front places.Line bytes) else None

-- the state of a reader: the bytes that it keeps, and how many data of a dropped write it discarded
-- after that write's line
pub record RequestHeld : Type 0 where
  pub kept : List ℕ
  pub dropped : ℕ

-- the state of a reader that keeps these bytes and discarded so many
abbrev pub held : List ℕ → ℕ → RequestHeld
held kept dropped = record { kept = kept; dropped = dropped }

-- `dropped`, the number of bytes of data that were discarded, is at most what the dropped write has
-- whose line this is, and 0 if there is no such line
abbrev pub IsDropped : Option (ℕ × ℕ) → ℕ → Type 0
IsDropped None dropped = dropped ≡ 0
IsDropped (Some line) dropped = dropped ≤ line.1

-- These bytes are unread. If a dropped write is first, they are its line, the data that were
-- discarded, and what is kept after the line.
abbrev pub UnreadAt : Option (ℕ × ℕ) → RequestHeld → List ℕ → Type 0
UnreadAt None h bytes = (h.dropped ≡ 0) × (bytes ≡ h.kept)
UnreadAt (Some line) h bytes =
    (discardable : List ℕ) × (length discardable ≡ h.dropped) × (h.dropped ≤ line.1)
    × (bytes ≡ take line.0 h.kept ++ (discardable ++ drop line.0 h.kept))

-- how many of the bytes kept are data that can be discarded
abbrev pub discardable_at : Option (ℕ × ℕ) → ℕ → ℕ → ℕ
discardable_at None len dropped = 0
discardable_at (Some line) len dropped = min (len - line.0) (line.1 - dropped)

-- these bytes were pushed and not yet returned
abbrev pub Unread : RequestHeld → List ℕ → Type 0
Unread h bytes = UnreadAt (dropped_line h.kept) h bytes

-- how many bytes of room these take: the data of a dropped write at the front take none
abbrev pub taken_at : Option (ℕ × ℕ) → List ℕ → ℕ
taken_at None bytes = length bytes
taken_at (Some line) bytes = line.0 + (length bytes - (line.0 + line.1))

-- how many bytes of room these take; if they begin with a dropped write, its data take none
abbrev pub taken_of : List ℕ → ℕ
taken_of bytes = taken_at (dropped_line bytes) bytes

-- the result of `next`, with the plain value of its request
abbrev pub plain_next_result : Result (Option Request) WireFault → Result (Option PlainRequest) WireFault
plain_next_result (Ok None) = Ok None
plain_next_result (Ok (Some request)) = Ok (Some (plain_request request))
plain_next_result (Err fault) = Err fault

-- From `old` the reader returns `answer`, and then it is `new`. From the bytes that were pushed and
-- not yet returned, it returns what they begin with and holds the rest.
abbrev pub Continues : RequestHeld → Result (Option PlainRequest) WireFault → RequestHeld → Type 0
Continues old answer new = (bytes : List ℕ) → Unread old bytes → (rest : List ℕ) × Unread new rest × ParsesAs bytes answer rest

-- after None there is room for one byte or more
abbrev pub LeavesRoom : Result (Option PlainRequest) WireFault → RequestHeld → Type 0
LeavesRoom (Ok None) new = (bytes : List ℕ) → Unread new bytes → taken_of bytes < READER_LIMIT
LeavesRoom (Ok (Some request)) new = Unit {0}
LeavesRoom (Err fault) new = Unit {0}

-- once a request was returned, the reader keeps fewer bytes
abbrev pub Shrinks : RequestHeld → Result (Option PlainRequest) WireFault → RequestHeld → Type 0
Shrinks old (Ok (Some request)) new = length new.kept < length old.kept
Shrinks old (Ok None) new = Unit {0}
Shrinks old (Err fault) new = Unit {0}

-- if no request was returned, the reader is unchanged
abbrev pub StaysUnlessGiven : RequestHeld → Result (Option PlainRequest) WireFault → RequestHeld → Type 0
StaysUnlessGiven old (Ok (Some request)) new = Unit {0}
StaysUnlessGiven old (Ok None) new = new ≡ old
StaysUnlessGiven old (Err fault) new = new ≡ old

-- of all bytes pushed to it, a reader has returned these requests, one a call, and holds the rest
abbrev pub IsGiven : RequestHeld → List ℕ → List PlainRequest → Type 0
IsGiven held pushed requests = (rest : List ℕ) × Unread held rest × Spelled pushed requests rest

-- Of all bytes pushed to it, a reader had returned `requests`, and one more call had this result. A
-- request that it returned is the next one. If it returned none, the rest of the bytes is a
-- beginning of one, or has the fault.
abbrev pub GivesMore : Result (Option PlainRequest) WireFault → RequestHeld → List ℕ → List PlainRequest → Type 0
GivesMore (Ok (Some request)) new pushed requests = IsGiven new pushed (requests ++ request ∷ [])
GivesMore (Ok None) new pushed requests =
    (rest : List ℕ) × Unread new rest × Spelled pushed requests rest × IsRequestPrefix rest × HasNoSpelling rest
GivesMore (Err fault) new pushed requests =
    (rest : List ℕ) × Unread new rest × Spelled pushed requests rest × HasFault rest fault × HasNoSpelling rest

-- if the requests returned so far are those that the pushed bytes spell, they still are after this
-- call, which returns `answer`
abbrev pub KeepsGiving : RequestHeld → Result (Option PlainRequest) WireFault → RequestHeld → Type 0
KeepsGiving old answer new =
    (pushed : List ℕ) (requests : List PlainRequest) → IsGiven old pushed requests → GivesMore answer new pushed requests

-- one call of `next` of the reader `old`: it returns `answer`, and the reader is `new` then
pub record IsNext (old : RequestHeld) (answer : Result (Option PlainRequest) WireFault) (new : RequestHeld) : Type 0 where
  pub continues : Continues old answer new
  pub room : LeavesRoom answer new
  pub shrinks : Shrinks old answer new
  pub unchanged : StaysUnlessGiven old answer new
  pub gives_on : KeepsGiving old answer new

-- once a fault was returned, it is returned at each later call, whatever is pushed
abbrev pub StaysFaulty : RequestHeld → Result (Option PlainRequest) WireFault → Type 0
StaysFaulty old (Err fault) = (bytes more : List ℕ) → Unread old bytes → ParsesAs (bytes ++ more) (Err fault) (bytes ++ more)
StaysFaulty old (Ok answer) = Unit {0}

-- the plain value of the result of a look for the first request, without the request's length
abbrev pub plain_front_result : Result (Option (Request × ℕ)) WireFault → Result (Option PlainRequest) WireFault
plain_front_result (Ok None) = Ok None
plain_front_result (Ok (Some found)) = Ok (Some (plain_request found.0))
plain_front_result (Err fault) = Err fault

-- the state of the reader once the request that was found, if any, was returned
abbrev pub held_after : Result (Option (Request × ℕ)) WireFault → RequestHeld → RequestHeld
held_after (Ok None) h = h
held_after (Ok (Some found)) h = held (drop found.1 h.kept) 0
held_after (Err fault) h = h
