-- The replies of a tape that keeps nothing, and what serving it does to both streams. Public
-- contracts cite it.
use Rattle.std.specs.Prelude.{◌≡◌, ℕ, List, [], length, codes, Option, Result, Ok, Err}
use Rattle.rmt_wire.specs.declared.errno.TheConstants.{EINVAL}
use Rattle.rmt_wire.specs.Request.{PlainRequest}
use Rattle.rmt_wire.specs.Request.PlainRequest.{Open, Close, Write, WriteDropped, Read, Op}
use Rattle.rmt_wire.specs.Reply.{PlainReply, reply_text}
use Rattle.rmt_wire.specs.Reply.PlainReply.{Done, Data, Error}
use Rattle.rmt_wire.specs.RequestReader.{RequestHeld}
use Rattle.rmt_wire.specs.RequestStream.{HasAnsweredAll, HasBegunToAnswer, CountsNext}
use Rattle.rmt_wire.specs.Counted.{HasRisen}
use Rattle.example_server.specs.declared.stream.Stop.{Stop}
use Rattle.example_server.specs.declared.stream.Stop.TheVariants.{Requests, Replies}

-- The text of the error EINVAL.
abbrev pub invalid_text : List ℕ
invalid_text = codes "Invalid argument"

-- The reply of the tape. It takes what is written, has nothing to read, and replies to an operation
-- with its count (rmt(8)).
abbrev pub answer_to : PlainRequest → PlainReply
answer_to (Open device mode) = Done 0
answer_to Close = Done 0
answer_to (Write bytes) = Done (length bytes)
answer_to (WriteDropped count) = Error EINVAL invalid_text
answer_to (Read count) = Data []
answer_to (Op op count) = Done count

-- The bytes of that reply.
abbrev pub answer_text : PlainRequest → List ℕ
answer_text request = reply_text (answer_to request)

-- The outcome of serving. `first` is what the stream still had at the start, and `left` what it has
-- at the end, if they are known. The bytes that were read in between are requests and then a rest.
-- Only the replies to these requests were written, in order, or a beginning of them if the output
-- failed. The rest is empty at the end of the stream, and otherwise it is as the error says.
abbrev pub IsServed : Result Unit Stop → (first left : Option (List ℕ)) → RequestHeld → (output output' : Option (List ℕ)) → Type 0
IsServed (Ok done) first left held output output' = HasAnsweredAll (Ok tt) answer_text first left held output output'
IsServed (Err (Requests fault)) first left held output output' = HasAnsweredAll (Err fault) answer_text first left held output output'
IsServed (Err (Replies fault)) first left held output output' = HasBegunToAnswer answer_text first left held output output'

-- A stream failed exactly if the result says so.
abbrev pub Fails : Result Unit Stop → (reads reads' writes writes' : ℕ) → Type 0
Fails (Ok done) reads reads' writes writes' = (reads' ≡ reads) × (writes' ≡ writes)
Fails (Err (Requests fault)) reads reads' writes writes' = CountsNext (Err fault) reads reads' × (writes' ≡ writes)
Fails (Err (Replies fault)) reads reads' writes writes' = (reads' ≡ reads) × HasRisen writes writes'
