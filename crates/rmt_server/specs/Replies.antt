-- The replies of a session, from the results of its parts. Public contracts cite it.
use Rattle.std.specs.Prelude.{ℕ, ◌≤◌, List, length, take, Option, Some, None, Result, Ok, Err}
use Rattle.rmt_wire.specs.Request.{PlainRequest}
use Rattle.rmt_wire.specs.Request.PlainRequest.{Op}
use Rattle.rmt_wire.specs.Reply.{PlainReply}
use Rattle.rmt_wire.specs.Reply.PlainReply.{Done, Data}
use Rattle.rmt_server.specs.declared.refusal.Refusal.{Refusal}
use Rattle.rmt_server.specs.declared.session.dispatch.Given.{Given}
use Rattle.rmt_server.specs.declared.session.dispatch.Given.TheVariants.{Number, Bytes}
use Rattle.rmt_server.specs.Refusals.{refused}

-- the reply for a result that is a number
abbrev pub number_reply : Result ℕ Refusal → PlainReply
number_reply (Ok n) = Done n
number_reply (Err r) = refused r

-- the reply for a read into this buffer
abbrev pub data_reply : Result ℕ Refusal → List ℕ → PlainReply
data_reply (Ok n) into = Data (take n into)
data_reply (Err r) into = refused r

-- why a check refused the request, if it did
abbrev pub refusal_in : Result Unit Refusal → Option Refusal
refusal_in (Ok x) = None
refusal_in (Err r) = Some r

-- the reply to a request that succeeded; the bytes of a read are in the buffer
abbrev pub given_reply : Given → List ℕ → PlainReply
given_reply (Number n) buffer = Done n
given_reply (Bytes n) buffer = Data (take n buffer)

-- the reply to a request that succeeded or was refused
abbrev pub outcome_reply : Result Given Refusal → List ℕ → PlainReply
outcome_reply (Ok given) buffer = given_reply given buffer
outcome_reply (Err r) buffer = refused r

-- the count of an operation fits in a reply
abbrev pub IsSayable : PlainRequest → Type 0
IsSayable (Op op count) = count ≤ 2147483647
IsSayable request = Unit {0}

-- the number of the result fits in a reply
abbrev pub IsOutcomeSayable : Result Given Refusal → Type 0
IsOutcomeSayable (Ok (Number n)) = n ≤ 2147483647
IsOutcomeSayable outcome = Unit {0}

-- a read does not return more bytes than the buffer has
abbrev pub IsWithinBuffer : Result Given Refusal → List ℕ → Type 0
IsWithinBuffer (Ok (Bytes n)) buffer = n ≤ length buffer
IsWithinBuffer outcome buffer = Unit {0}
