-- Reading a volume over a peer: its requests, what the sink is given, and how it ends. A peer is
-- the far end of a connection: what is sent over it goes through that connection. `p` and `p'` are
-- the peer before and after, and `tells` relates a peer to what passed so far. `next` gives the
-- request that follows some replies. `after` and `goes` say what to do with the reel once its
-- volume was read. `completed` says whether the sink accepted `Complete`. `kind` gives what passed
-- at the peer and what the calls of the sink did. Public contracts cite it.
use Rattle.std.specs.Prelude.{◌≡◌, ◌≢◌, ⊤, ◌⊎◌, ◌≤◌, ◌+◌, ◌-◌, ◌^◌, ◌&&◌, ℕ, Bool, true, false, List, [], ◌∷◌, ◌++◌, length, take, position, nat_eq, nat_lt, Option, Some, None, Result, Ok, Err, if◌then◌else◌, Vec}
use Rattle.std.specs.Global.{Global}
use Rattle.std.specs.List.{concat}
use Rattle.console.specs.declared.status.ExitStatus.{ExitStatus}
use Rattle.console.specs.declared.status.ExitStatus.TheVariants.{Success, Abnormal}
use Rattle.rmt_wire.specs.declared.fcntl.TheConstants.{O_RDONLY}
use Rattle.rmt_wire.specs.declared.mtio.TheConstants.{MTREW, MTOFFL}
use Rattle.rmt_wire.specs.declared.limits.TheConstants.{RECORD_LIMIT}
use Rattle.rmt_wire.specs.Reply.{PlainReply}
use Rattle.rmt_wire.specs.Reply.PlainReply.{Done, Data, Error}
use Rattle.rmt_wire.specs.Request.{PlainRequest}
use Rattle.rmt_wire.specs.Request.PlainRequest.{Open, Close, Read, Op}
use Rattle.remote_tape.specs.Calls.{is_done, CallsFollow, Stops, Extends}
use Rattle.rdump_net.specs.Ends.{CopyEnds, CopyKind, SinkEnds, SinkKind}
use Rattle.remote_tape.specs.Peer.{Logs}
use Rattle.rdump_net.specs.Sink.{SinkCall, Takes, blocks_from, calls_of}
use Rattle.rdump_net.specs.Sink.SinkCall.{Mark, Complete}
use Rattle.rmt_wire.specs.Print.{IsPrinted}
use Rattle.refusals.specs.declared.request.TapeRequest.{TapeRequest}
use Rattle.remote_tape.specs.Search.{GoesOnBy, IsBeginningOf, IsMarkFound, IsMarkMissing, IsRefusedLast, IsUndetermined, next_back, next_close, records_of}
use Rattle.remote_tape.specs.declared.fault.CallFault.{CallFault}
use Rattle.remote_tape.specs.declared.fault.CallFault.TheVariants as call
use Rattle.remote_tape.specs.declared.fault.TapeCause.{TapeCause}
use Rattle.remote_tape.specs.declared.fault.TapeCause.TheVariants.{Refused, NoReply}
use Rattle.rdump_net.specs.declared.fault.ReadFault.{ReadFault}
use Rattle.rdump_net.specs.declared.fault.ReadFault.TheVariants.{Tape, Stopped, NoMark, Undetermined}
use Rattle.remote_tape.specs.declared.peer.Passed.{Passed}
use Rattle.rdump_net.specs.declared.volume.AfterVolume.{AfterVolume}
use Rattle.rdump_net.specs.declared.volume.AfterVolume.TheVariants.{Stay, Check, Offline}

-- Once the mark is found and the sink was asked to complete: nothing if it refused. If it accepted:
-- the close, with `Offline` after taking the reel offline.
abbrev pub next_end : AfterVolume → Bool → List PlainReply → Option PlainRequest
next_end goes false replies = None
next_end Stay true replies = next_close replies
next_end Check true replies = next_close replies
next_end Offline true [] = Some (Op MTOFFL 1)
next_end Offline true (taken ∷ replies) = if is_done taken then next_close replies else None

-- after the last of `n` records: look for the mark, unless the reel stays unchecked
abbrev pub next_mark : AfterVolume → Bool → ℕ → List PlainReply → Option PlainRequest
next_mark Stay completed n replies = next_close replies
next_mark Check completed n replies = next_back (next_end Check completed) n replies
next_mark Offline completed n replies = next_back (next_end Offline completed) n replies

-- a reel without records stays, and no mark is looked for
abbrev pub after_for_count : AfterVolume → ℕ → AfterVolume
after_for_count after n = if nat_eq n 0 then Stay else after

-- reads until one returns nothing, after `n` records
abbrev pub next_read : AfterVolume → Bool → ℕ → List PlainReply → Option PlainRequest
next_read after completed n [] = Some (Read RECORD_LIMIT)
next_read after completed n (Data (b ∷ bytes) ∷ reads) = next_read after completed (n + 1) reads
next_read after completed n (Data [] ∷ replies) = next_mark (after_for_count after n) completed n replies
next_read after completed n (Done k ∷ reads) = None
next_read after completed n (Error k text ∷ reads) = None

-- The open for reading, the rewind, the reads, and what follows them. After a refusal of one of
-- these, nothing more.
abbrev pub next_of : List ℕ → AfterVolume → Bool → List PlainReply → Option PlainRequest
next_of device after completed [] = Some (Open device O_RDONLY)
next_of device after completed (opened ∷ []) = if is_done opened then Some (Op MTREW 1) else None
next_of device after completed (opened ∷ rewound ∷ reads) = if is_done rewound then next_read after completed 0 reads else None

-- no record but the last is empty
abbrev pub OnlyTheLastIsEmpty : List (List ℕ) → Type 0
OnlyTheLastIsEmpty [] = ⊤
OnlyTheLastIsEmpty ([] ∷ records) = records ≡ []
OnlyTheLastIsEmpty ((b ∷ bytes) ∷ records) = OnlyTheLastIsEmpty records

-- the bytes before this index, or all of them
abbrev pub cut_at : Option ℕ → List ℕ → List ℕ
cut_at None bytes = bytes
cut_at (Some n) bytes = take n bytes

-- the text of a label ends before its first zero byte
abbrev pub text_of : List ℕ → List ℕ
text_of bytes = cut_at (position (λ b. nat_eq b 0) bytes) bytes

-- the text of the first record, which is the label
abbrev pub label_text : List (List ℕ) → List ℕ
label_text [] = []
label_text (label ∷ records) = text_of label

-- the records after the label are the file
abbrev pub file_bytes : List (List ℕ) → List ℕ
file_bytes [] = []
file_bytes (label ∷ records) = concat records

-- what to do with the reel, given its records: a reel without records stays
abbrev pub after_for_records : AfterVolume → List (List ℕ) → AfterVolume
after_for_records after [] = Stay
after_for_records after ([] ∷ records) = Stay
after_for_records after ((b ∷ label) ∷ records) = after

-- what is known at success, when the sink was given `end` after the records: a mark was found and
-- the sink was asked to complete; or with `Stay` neither
abbrev pub IsEndKnown : (List PlainReply → Option PlainRequest) → AfterVolume → List PlainReply → List SinkCall → Type 0
IsEndKnown next Stay replies end = end ≡ []
IsEndKnown next Check replies end = IsMarkFound next replies × (end ≡ Mark ∷ Complete ∷ [])
IsEndKnown next Offline replies end = IsMarkFound next replies × (end ≡ Mark ∷ Complete ∷ [])

-- Where a sink can stop the read, when it was given `end` after the records. While it is given the
-- records, a read would be next. Once it is asked to complete, a mark was found, and nothing is
-- next.
abbrev pub IsStopped : (List PlainReply → Option PlainRequest) → List PlainReply → List SinkCall → Type 0
IsStopped next replies [] = next replies ≡ Some (Read RECORD_LIMIT)
IsStopped next replies (call ∷ calls) = IsMarkFound next replies × (next replies ≡ None)

-- Why a volume was not read whole, if a request with this name failed for this cause, given the
-- replies so far and what passed. After `Refused` no request follows.
abbrev pub TapeFails : (List PlainReply → Option PlainRequest) → List PlainReply → List Passed → TapeRequest → TapeCause → Type 0
TapeFails next replies passed name (Refused number) =
    CallsFollow next replies passed × IsRefusedLast next replies name number × (next replies ≡ None)
TapeFails next replies passed name (NoReply call.ConnectionEnded) = Stops next (Some call.ConnectionEnded) replies passed
TapeFails next replies passed name (NoReply call.Botched) =
    Stops next (Some call.Botched) replies passed ⊎ (CallsFollow next replies passed × (2 ^ 64 - 1 ≤ length replies))
TapeFails next replies passed name (NoReply call.OutOfMemory) = Stops next (Some call.OutOfMemory) replies passed

-- Why a volume was not read whole, given the replies so far, what the sink was given after the
-- records (`end`), and what passed. With `NoMark` and `Undetermined` all requests were made; the
-- reply to the close, if any, does not matter.
abbrev pub ReadFails : (List PlainReply → Option PlainRequest) → List SinkCall → List PlainReply → List Passed → ReadFault → Type 0
ReadFails next end replies passed (Tape fault) = TapeFails next replies passed fault.request fault.cause
ReadFails next end replies passed Stopped = CallsFollow next replies passed × IsStopped next replies end
ReadFails next end replies passed NoMark = (closing : Option CallFault) × Stops next closing replies passed × IsMarkMissing next replies
ReadFails next end replies passed Undetermined =
    (closing : Option CallFault) × Stops next closing replies passed × IsUndetermined next replies

-- whether the sink accepted all that it was given, as it did unless it stopped the read
abbrev pub is_whole : Result Unit ReadFault → Bool
is_whole (Ok x) = true
is_whole (Err Stopped) = false
is_whole (Err (Tape fault)) = true
is_whole (Err NoMark) = true
is_whole (Err Undetermined) = true

-- how reading ends, when the sink was given `end` after the records; on success the last reply says
-- that the close was done, and a mark was found if it was looked for
abbrev pub ReadEnds : (List PlainReply → Option PlainRequest) → AfterVolume → List SinkCall → List PlainReply → List Passed → Result Unit ReadFault → Type 0
ReadEnds next goes end replies passed (Ok x) =
    CallsFollow next replies passed
    × ((before : List PlainReply) × (closed : PlainReply) × (replies ≡ before ++ closed ∷ []) × (next before ≡ Some Close)
    × (is_done closed ≡ true))
    × IsEndKnown next goes replies end
ReadEnds next goes end replies passed (Err fault) = ReadFails next end replies passed fault

-- What the sink is given after the records, and whether it completed. The cases:
--
-- - `unasked`: it is given nothing more.
-- - `refused`: a mark was found, and the sink was given it. Then it was asked to complete, and
--   refused, which stopped the read.
-- - `accepted`: a mark was found, and the sink was given it. Then it was asked to complete, and
--   completed.
pub data IsEnding (next : List PlainReply → Option PlainRequest) (goes : AfterVolume) (replies : List PlainReply)
    (result : Result Unit ReadFault) : List SinkCall → Bool → Type 0 where
  unasked : IsEnding next goes replies result [] false
  refused : IsMarkFound next replies → goes ≢ Stay → result ≡ Err Stopped → IsEnding next goes replies result (Mark ∷ Complete ∷ []) false
  accepted : IsMarkFound next replies → goes ≢ Stay → is_whole result ≡ true → IsEnding next goes replies result (Mark ∷ Complete ∷ []) true

-- What reading a volume does over a peer, what the sink is given, and the result. `end` is what the
-- sink is given after the records, and `completed` says whether it accepted `Complete` there. The
-- result is `Stopped` exactly if the sink did not accept the last that it was given.
pub record IsRead {P S : Type 0} (kind : SinkKind P S) (device : List ℕ) (after : AfterVolume) (old new : SinkEnds P S)
    (result : Result Unit ReadFault) : Type 0 where
  pub completed : Bool
  pub replies : List PlainReply
  pub passed : List Passed
  pub end : List SinkCall
  pub logs : Logs kind.tells old.peer new.peer passed
  pub reads : OnlyTheLastIsEmpty (records_of replies)
  pub took : Takes kind.takes old.sink new.sink (calls_of (records_of replies) ++ end) (is_whole result)
  pub ending : IsEnding (next_of device after completed) (after_for_records after (records_of replies)) replies result end completed
  pub ends : ReadEnds (next_of device after completed) (after_for_records after (records_of replies)) end replies passed result

-- If MTOFFL is the next request after some replies, be they those that came or others, then the
-- sink was given all records, the mark and `Complete`, and accepted each.
abbrev pub IsTakenAwayOnlyIfKept : {P S : Type 0} → SinkKind P S → List ℕ → AfterVolume → SinkEnds P S → SinkEnds P S → Result Unit ReadFault → Type 0
IsTakenAwayOnlyIfKept kind device after old new result =
    (read : IsRead kind device after old new result) (before : List PlainReply)
    → next_of device after read.completed before ≡ Some (Op MTOFFL 1)
    → Takes kind.takes old.sink new.sink (calls_of (records_of read.replies) ++ Mark ∷ Complete ∷ []) true

-- What reading a volume that stays in the drive does over a peer, and its result: the text of the
-- label is printed to the output, and the records after it are written to the file. The result is
-- `Stopped` exactly if not all was printed and written. This does not say that the read stops after
-- a write that failed.
pub record IsVolumeCopied {P F W : Type 0} (kind : CopyKind P F W) (device : List ℕ) (old new : CopyEnds P F W)
    (result : Result Unit ReadFault) : Type 0 where
  pub replies : List PlainReply
  pub passed : List Passed
  pub named : Bool
  pub filled : Bool
  pub logs : Logs kind.tells old.peer new.peer passed
  pub label : IsPrinted kind.contents (label_text (records_of replies)) old.out new.out named
  pub records : IsPrinted kind.filed (file_bytes (records_of replies)) old.file new.file filled
  pub whole : named && filled ≡ is_whole result
  pub ends : ReadEnds (next_of device Stay false) Stay [] replies passed result

-- the exit status: `Success` if the volume was read whole, else `Abnormal`
abbrev pub status_of : Result Unit ReadFault → ExitStatus
status_of (Ok x) = Success
status_of (Err fault) = Abnormal

-- the exit status of `read_volume`, which leaves the reel in the drive
abbrev pub IsReadStatus : {P F W : Type 0} → CopyKind P F W → List ℕ → CopyEnds P F W → CopyEnds P F W → ExitStatus → Type 0
IsReadStatus kind device old new status =
    (read : Result Unit ReadFault) × (status ≡ status_of read) × IsVolumeCopied kind device old new read

-- the replies are records, none empty; with the `m` before them there are `n`
abbrev pub AreRecords : ℕ → ℕ → List PlainReply → Type 0
AreRecords m n [] = n ≡ m
AreRecords m n (Data (b ∷ bytes) ∷ reads) = AreRecords (m + 1) n reads
AreRecords m n (Data [] ∷ reads) = ⊥
AreRecords m n (Done k ∷ reads) = ⊥
AreRecords m n (Error k text ∷ reads) = ⊥

-- the open and the rewind were done, and nothing was read
abbrev pub IsAtLabel : List PlainReply → Type 0
IsAtLabel replies =
    (opened : PlainReply) × (rewound : PlainReply) × (replies ≡ opened ∷ rewound ∷ []) × (is_done rewound ≡ true)
    × (records_of replies ≡ [])

-- the label was read, and perhaps records after it: `n` with the label
abbrev pub IsVolumeReading : ℕ → List PlainReply → Type 0
IsVolumeReading n replies =
    (opened : PlainReply) × (rewound : PlainReply) × (b : ℕ) × (bytes : List ℕ) × (reads : List PlainReply)
    × (replies ≡ opened ∷ rewound ∷ Data (b ∷ bytes) ∷ reads) × (is_done rewound ≡ true) × AreRecords 1 n reads

-- The label was read, and perhaps records after it: `n` with the label. Then a read returned
-- nothing.
abbrev pub IsVolumeRead : ℕ → List PlainReply → Type 0
IsVolumeRead n replies = (before : List PlainReply) × IsVolumeReading n before × (replies ≡ before ++ Data [] ∷ [])

-- Further calls follow these replies, until one fails with `fault`, or the sink stops the read.
-- Then `later` are all replies that came.
pub record Breaks {P : Type 0} (next : List PlainReply → Option PlainRequest) (tells : P → List Passed → Type 0) (p p' : P)
    (replies : List PlainReply) (fault : ReadFault) (later : List PlainReply) : Type 0 where
  pub more : List Passed
  pub logs : Logs tells p p' more
  pub fails : (passed : List Passed) → CallsFollow next replies passed → ReadFails next [] later (passed ++ more) fault

-- one more call is made; the result is its reply, or why it gets none
abbrev pub CallSteps : {P : Type 0} → (List PlainReply → Option PlainRequest) → (P → List Passed → Type 0) → P → P → List PlainReply
    → Result PlainReply ReadFault → Type 0
CallSteps next tells p p' replies (Ok reply) = Extends next tells p p' replies (replies ++ reply ∷ [])
CallSteps next tells p p' replies (Err fault) =
    (later : List PlainReply) × Breaks next tells p p' replies fault later × (records_of later ≡ records_of replies)
    × (is_whole (Err fault) ≡ true) × IsBeginningOf replies later

-- One more call is made after `replies`. Ok: its reply says that the request was done. Err: it was
-- refused, or got no reply.
abbrev pub IsDone : {P : Type 0} → (List PlainReply → Option PlainRequest) → (P → List Passed → Type 0) → P → P → List PlainReply
    → Result Unit ReadFault → Type 0
IsDone next tells p p' replies (Ok x) =
    (reply : PlainReply) × (is_done reply ≡ true) × (records_of (reply ∷ []) ≡ []) × CallSteps next tells p p' replies (Ok reply)
IsDone next tells p p' replies (Err fault) = CallSteps next tells p p' replies (Err fault)

-- no request follows a refusal of the next one
abbrev pub EndsAtRefusal : (List PlainReply → Option PlainRequest) → List PlainReply → Type 0
EndsAtRefusal next replies = (number : ℕ) (text : List ℕ) → next (replies ++ Error number text ∷ []) ≡ None

-- Whenever `request` is next, and nothing follows a refusal of it, one more call is made. Ok: its
-- reply says that the request was done. Err: it was refused, or got no reply.
abbrev pub IsDoneNext : {P : Type 0} → (P → List Passed → Type 0) → PlainRequest → P → P → Result Unit ReadFault → Type 0
IsDoneNext tells request p p' result =
    (next : List PlainReply → Option PlainRequest) (replies : List PlainReply) → next replies ≡ Some request
    → EndsAtRefusal next replies → IsDone next tells p p' replies result

-- The first two calls of reading a volume. Ok: `device` was opened and rewound. Err: why it was
-- not.
abbrev pub IsBegun : {P : Type 0} → (P → List Passed → Type 0) → List ℕ → AfterVolume → Bool → P → P → Result Unit ReadFault → Type 0
IsBegun tells device after completed p p' (Ok x) =
    (opened : PlainReply) × (rewound : PlainReply) × (is_done rewound ≡ true) × (records_of (opened ∷ rewound ∷ []) ≡ [])
    × Extends (next_of device after completed) tells p p' [] (opened ∷ rewound ∷ [])
IsBegun tells device after completed p p' (Err fault) = CallSteps (next_of device after completed) tells p p' [] (Err fault)

-- calls up to a read that returns nothing, after `n` records
abbrev pub Reads : {P : Type 0} → (List PlainReply → Option PlainRequest) → (P → List Passed → Type 0) → P → P → List PlainReply
    → Result ℕ ReadFault → List PlainReply → Type 0
Reads next tells p p' replies (Ok n) later = Extends next tells p p' replies later × IsVolumeRead n later
Reads next tells p p' replies (Err fault) later = Breaks next tells p p' replies fault later

-- whether the sink accepted all that it was given; the number of records does not matter
abbrev pub is_taken : Result ℕ ReadFault → Bool
is_taken (Ok n) = true
is_taken (Err fault) = is_whole (Err fault)

-- the records that come after these replies are read and given to the sink, up to the result
pub record AreRecordsGiven {P S : Type 0} (next : List PlainReply → Option PlainRequest) (kind : SinkKind P S)
    (replies : List PlainReply) (old new : SinkEnds P S) (result : Result ℕ ReadFault) : Type 0 where
  pub later : List PlainReply
  pub more : List (List ℕ)
  pub adds : records_of later ≡ records_of replies ++ more
  pub only : OnlyTheLastIsEmpty more
  pub took : Takes kind.takes old.sink new.sink (blocks_from 0 more) (is_taken result)
  pub reads : Reads next kind.tells old.peer new.peer replies result later

-- whenever exactly the label was read before, the records after it are read and given to the sink,
-- up to the result
abbrev pub AreFurtherRecordsGiven : {P S : Type 0} → SinkKind P S → SinkEnds P S → SinkEnds P S → Result ℕ ReadFault → Type 0
AreFurtherRecordsGiven kind old new result =
    (device : List ℕ) (after : AfterVolume) (completed : Bool) (replies : List PlainReply) → IsVolumeReading 1 replies
    → AreRecordsGiven (next_of device after completed) kind replies old new result

-- calls up to the end of the records, of which there are `n`; from there `next_mark` gives the next
-- requests
abbrev pub ReadsVolume : {P : Type 0} → (List PlainReply → Option PlainRequest) → AfterVolume → Bool → (P → List Passed → Type 0) → P → P
    → List PlainReply → Result ℕ ReadFault → List PlainReply → Type 0
ReadsVolume next after completed tells p p' replies (Ok n) later =
    Extends next tells p p' replies later × GoesOnBy next (next_mark (after_for_count after n) completed n) later
    × (after_for_records after (records_of later) ≡ after_for_count after n)
ReadsVolume next after completed tells p p' replies (Err fault) later = Breaks next tells p p' replies fault later

-- The calls after `replies`, until the reads end with `result`: the sink is given the records.
-- `later` are all replies that came until then.
pub record IsGiven {P S : Type 0} (next : List PlainReply → Option PlainRequest) (after : AfterVolume) (completed : Bool) (kind : SinkKind P S)
    (replies : List PlainReply) (old new : SinkEnds P S) (result : Result ℕ ReadFault) : Type 0 where
  pub later : List PlainReply
  pub only : OnlyTheLastIsEmpty (records_of later)
  pub took : Takes kind.takes old.sink new.sink (calls_of (records_of later)) (is_taken result)
  pub reads : ReadsVolume next after completed kind.tells old.peer new.peer replies result later

-- Whenever the device was opened and rewound, and nothing was read, the sink is given the records,
-- until the reads end with `result`.
abbrev pub IsGivenAtLabel : {P S : Type 0} → SinkKind P S → SinkEnds P S → SinkEnds P S → Result ℕ ReadFault → Type 0
IsGivenAtLabel kind old new result =
    (device : List ℕ) (after : AfterVolume) (completed : Bool) (seen : List PlainReply) → IsAtLabel seen
    → IsGiven (next_of device after completed) after completed kind seen old new result

-- after `replies` no mark was found, and `fault` is why: there is none, or it could not be
-- determined
abbrev pub IsUnmarked : (List PlainReply → Option PlainRequest) → List PlainReply → ReadFault → Type 0
IsUnmarked next replies NoMark = IsMarkMissing next replies
IsUnmarked next replies Undetermined = IsUndetermined next replies
IsUnmarked next replies Stopped = ⊥
IsUnmarked next replies (Tape fault) = ⊥

-- the reel was taken offline, if `Offline` asks for it, and the close is next; or a call failed
-- with the fault
abbrev pub IsTakenAway : {P : Type 0} → (List PlainReply → Option PlainRequest) → (P → List Passed → Type 0) → P → P
    → List PlainReply → Result Unit ReadFault → Type 0
IsTakenAway next tells p p' replies (Ok x) =
    (taken : List PlainReply) × Extends next tells p p' replies (replies ++ taken) × (records_of taken ≡ [])
    × GoesOnBy next next_close (replies ++ taken)
IsTakenAway next tells p p' replies (Err fault) = CallSteps next tells p p' replies (Err fault)

-- whenever the sink completed at the mark, the reel is taken offline if `goes` is `Offline`, and
-- the close is next; or a call fails with the fault
abbrev pub IsTakenAwayAtMark : {P : Type 0} → (P → List Passed → Type 0) → AfterVolume → P → P → Result Unit ReadFault → Type 0
IsTakenAwayAtMark tells goes p p' result =
    (next : List PlainReply → Option PlainRequest) (replies : List PlainReply) → GoesOnBy next (next_end goes true) replies
    → IsTakenAway next tells p p' replies result

-- Further calls, from these replies on to the end of the read, which has this result. They read no
-- record, and the sink is given nothing. `end` is what it was given since the records.
pub record Concludes {P : Type 0} (next : List PlainReply → Option PlainRequest) (goes : AfterVolume) (end : List SinkCall)
    (tells : P → List Passed → Type 0) (p p' : P) (replies : List PlainReply) (result : Result Unit ReadFault) : Type 0 where
  pub later : List PlainReply
  pub more : List Passed
  pub logs : Logs tells p p' more
  pub same : records_of later ≡ records_of replies
  pub adds : IsBeginningOf replies later
  pub whole : is_whole result ≡ true
  pub ends : (passed : List Passed) → CallsFollow next replies passed → ReadEnds next goes end later (passed ++ more) result

-- Whenever no mark was found, for the reason `fault`, and the close is next, further calls are made
-- to the end of the read, which has this result.
abbrev pub IsClosedUnmarked : {P : Type 0} → (P → List Passed → Type 0) → ReadFault → P → P → Result Unit ReadFault → Type 0
IsClosedUnmarked tells fault p p' result =
    (goes : AfterVolume) (next : List PlainReply → Option PlainRequest) (replies : List PlainReply) → GoesOnBy next next_close replies
    → IsUnmarked next replies fault → Concludes next goes [] tells p p' replies result

-- Further calls, and what the sink is given, from these replies on to the end of the read, which
-- has this result. The calls read no record. `completed` says whether the sink accepted `Complete`.
pub record HasConcluded {P S : Type 0} (next : List PlainReply → Option PlainRequest) (goes : AfterVolume) (completed : Bool)
    (kind : SinkKind P S) (replies : List PlainReply) (old new : SinkEnds P S) (result : Result Unit ReadFault) : Type 0 where
  pub later : List PlainReply
  pub more : List Passed
  pub end : List SinkCall
  pub logs : Logs kind.tells old.peer new.peer more
  pub same : records_of later ≡ records_of replies
  pub took : Takes kind.takes old.sink new.sink end (is_whole result)
  pub ending : IsEnding next goes later result end completed
  pub ends : (passed : List Passed) → CallsFollow next replies passed → ReadEnds next goes end later (passed ++ more) result

-- Whenever a mark was found, the sink is given it and asked to complete, and further calls are made
-- to the end of the read, which has this result.
abbrev pub IsConcludedAtMark : {P S : Type 0} → SinkKind P S → AfterVolume → SinkEnds P S → SinkEnds P S → Result Unit ReadFault → Type 0
IsConcludedAtMark kind goes old new result =
    (completed : Bool) × ((next : List PlainReply → Option PlainRequest) (replies : List PlainReply) → goes ≢ Stay
    → GoesOnBy next (next_end goes completed) replies → IsMarkFound next replies → HasConcluded next goes completed kind replies old new result)

-- After the last of `n` records, whenever a mark is looked for, further calls are made to the end
-- of the read, which has this result.
abbrev pub IsConcludedBySearch : {P S : Type 0} → SinkKind P S → AfterVolume → ℕ → SinkEnds P S → SinkEnds P S → Result Unit ReadFault → Type 0
IsConcludedBySearch kind goes n old new result =
    (completed : Bool) × ((next : List PlainReply → Option PlainRequest) (replies : List PlainReply) → goes ≢ Stay
    → GoesOnBy next (next_back (next_end goes completed) n) replies → HasConcluded next goes completed kind replies old new result)

-- After the last of `n` records, further calls are made to the end of the read, which has this
-- result. They look for the mark if `goes` asks for it.
abbrev pub IsConcludedAtEnd : {P S : Type 0} → SinkKind P S → AfterVolume → ℕ → SinkEnds P S → SinkEnds P S → Result Unit ReadFault → Type 0
IsConcludedAtEnd kind goes n old new result =
    (completed : Bool) × ((next : List PlainReply → Option PlainRequest) (replies : List PlainReply)
    → GoesOnBy next (next_mark goes completed n) replies → HasConcluded next goes completed kind replies old new result)

-- All calls of reading a volume over a peer that is connected: what they do over it, what the sink
-- is given, and the result. `replies` are all replies, and `more` is what passed. `end` and
-- `completed` are as in `IsRead`.
pub record HasReadVolume {P S : Type 0} (kind : SinkKind P S) (device : List ℕ) (after : AfterVolume) (old new : SinkEnds P S)
    (result : Result Unit ReadFault) : Type 0 where
  pub completed : Bool
  pub replies : List PlainReply
  pub more : List Passed
  pub end : List SinkCall
  pub logs : Logs kind.tells old.peer new.peer more
  pub reads : OnlyTheLastIsEmpty (records_of replies)
  pub took : Takes kind.takes old.sink new.sink (calls_of (records_of replies) ++ end) (is_whole result)
  pub ending : IsEnding (next_of device after completed) (after_for_records after (records_of replies)) replies result end completed
  pub ends : (passed : List Passed) → CallsFollow (next_of device after completed) [] passed
      → ReadEnds (next_of device after completed) (after_for_records after (records_of replies)) end replies (passed ++ more) result
