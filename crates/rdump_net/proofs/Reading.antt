-- A volume that is read over a peer, put together.
use Rattle.std.proofs.lemmas.Bool.Decides.{nat_tests}
use Rattle.rdump_net.proofs.Words.{◌≡◌, ◌≢◌, inl, inr, ℕ, ◌+◌, ◌-◌, ◌^◌, ◌≤◌, List, [], ◌∷◌, ◌++◌, length, length-append, Bool, true, false, Option, Some, None, Result, Ok, Err, refl, sym, ap, subst, ◌∙◌, if◌then◌else◌, append-nil, append_assoc, nat_eq, arith, RECORD_LIMIT, PlainReply, Done, Data, Error, PlainRequest, Read, IsCalled, CallsFollow, Extends, Finishes, HasCause, HasFailed, IsAsked, TapeRequest, TapeFault, TapeCause, Refused, NoReply, Tape, TapeFails, sink_ends, sink_kind, SinkCall, Takes, blocks_from, calls_of, Label, Block, nothing, accepted, stopped, next_of, next_read, next_mark, after_for_count, after_for_records, records_of, IsNamed, ReadFails, ReadEnds, IsEnding, is_whole, is_taken, AreRecords, IsAtLabel, IsVolumeReading, OnlyTheLastIsEmpty, IsBeginningOf, EndsAtRefusal, GoesOnBy, Breaks, CallSteps, IsBegun, IsDone, IsDoneNext, Reads, ReadsVolume, AreRecordsGiven, HasConcluded, IsGiven, HasReadVolume, unasked, CallFault, ReadFault, Stopped, Passed, AfterVolume, alone}
use Rattle.refusals.specs.declared.request.TapeRequest.TheVariants as asked
use Rattle.remote_tape.specs.declared.fault.CallFault.TheVariants as call
use Rattle.remote_tape.proofs.Calls.{went_on, reply_extends, call_finishes, extends_both}
use Rattle.remote_tape.proofs.Searching.{records_more, records_same, beginning_same}

-- what is asked after records depends on their number only
after_records : (after : AfterVolume) (c : Bool) (m n : ℕ) (reads more : List PlainReply) → AreRecords m n reads → next_read after c m (reads ++ more) ≡ next_read after c n more
after_records after c m n [] more h = ap (λ k. next_read after c k more) (sym h)
after_records after c m n (Data (b ∷ bytes) ∷ reads) more h = after_records after c (m + 1) n reads more h
after_records after c m n reads more h = absurd h

-- how many there are
records_count : (m n : ℕ) (reads : List PlainReply) → AreRecords m n reads → n ≡ m + length reads
records_count m n [] h = h ∙ omega arith
records_count m n (Data (b ∷ bytes) ∷ reads) h = let k = records_count (m + 1) n reads h in omega (arith, k)
records_count m n reads h = absurd h

-- records, and further ones
records_both : (m k n : ℕ) (a b : List PlainReply) → AreRecords m k a → AreRecords k n b → AreRecords m n (a ++ b)
records_both m k n [] b h more = subst (λ j. AreRecords j n b) h more
records_both m k n (Data (c ∷ bytes) ∷ a) b h more = records_both (m + 1) k n a b h more
records_both m k n a b h more = absurd h

-- what the sink is given of records and of what follows them, and that only the last can be empty
blocks_more : (k m n j : ℕ) (reads more : List PlainReply) → AreRecords m n reads → k + n ≡ m + j
    → blocks_from k (records_of (reads ++ more)) ≡ blocks_from k (records_of reads) ++ blocks_from j (records_of more)
blocks_more k m n j [] more h e = ap (λ i. blocks_from i (records_of more)) (omega (arith, h, e))
blocks_more k m n j (Data (b ∷ bytes) ∷ reads) more h e = ap (λ l. Block k (b ∷ bytes) ∷ l) (blocks_more (k + 1) (m + 1) n j reads more h (omega (arith, e)))
blocks_more k m n j reads more h e = absurd h

only_more : (m n : ℕ) (reads more : List PlainReply) → AreRecords m n reads → OnlyTheLastIsEmpty (records_of more) → OnlyTheLastIsEmpty (records_of (reads ++ more))
only_more m n [] more h only = only
only_more m n (Data (b ∷ bytes) ∷ reads) more h only = only_more (m + 1) n reads more h only
only_more m n reads more h only = absurd h

-- what is asked after the label and the records so far, and where the label comes
reading_goes : (device : List ℕ) (after : AfterVolume) (c : Bool) (n : ℕ) (replies : List PlainReply) → IsVolumeReading n replies → GoesOnBy (next_of device after c) (next_read after c n) replies
reading_goes device after c n replies (opened, rewound, b, bytes, reads, e, met, h) = λ ends.
    ap (λ l. next_of device after c (l ++ ends)) e ∙ ap (λ t. if t then next_read after c 1 (reads ++ ends) else None) met ∙ after_records after c 1 n reads ends h

label_goes : (device : List ℕ) (after : AfterVolume) (c : Bool) (replies : List PlainReply) → IsAtLabel replies → GoesOnBy (next_of device after c) (next_read after c 0) replies
label_goes device after c replies (opened, rewound, e, met, none) = λ ends. ap (λ l. next_of device after c (l ++ ends)) e ∙ ap (λ t. if t then next_read after c 0 ends else None) met

-- there a read is next, and after a read of nothing the mark is looked for
read_next : (next : List PlainReply → Option PlainRequest) (after : AfterVolume) (c : Bool) (n : ℕ) (replies : List PlainReply) → GoesOnBy next (next_read after c n) replies → next replies ≡ Some (Read RECORD_LIMIT)
read_next next after c n replies goes = ap next (sym (append-nil replies)) ∙ goes []

mark_next : (next : List PlainReply → Option PlainRequest) (after : AfterVolume) (c : Bool) (n : ℕ) (replies : List PlainReply) → GoesOnBy next (next_read after c n) replies
    → GoesOnBy next (next_mark (after_for_count after n) c n) (replies ++ Data [] ∷ [])
mark_next next after c n replies goes = λ ends. ap next (append_assoc replies (Data [] ∷ []) ends) ∙ goes (Data [] ∷ ends)

reading_more : (m n : ℕ) (replies reads : List PlainReply) → IsVolumeReading m replies → AreRecords m n reads → IsVolumeReading n (replies ++ reads)
reading_more m n replies reads (opened, rewound, b, label, before, e, met, h) more =
    (opened, rewound, b, label, before ++ reads, ap (λ l. l ++ reads) e, met, records_both 1 m n before reads h more)

-- the label came
label_read : (replies : List PlainReply) (b : ℕ) (bytes : List ℕ) → IsAtLabel replies → IsVolumeReading 1 (replies ++ Data (b ∷ bytes) ∷ [])
label_read replies b bytes (opened, rewound, e, met, none) = (opened, rewound, b, bytes, [], ap (λ l. l ++ Data (b ∷ bytes) ∷ []) e, met, refl)

-- a sink was given calls, and then more
pub takes_both : {S : Type 0} (takes : S → S → SinkCall → Bool → Type 0) {s t u : S} {a b : List SinkCall} {first whole : Bool} → first ≡ true → Takes takes s t a first → Takes takes t u b whole
    → Takes takes s u (a ++ b) whole
takes_both takes e nothing k = k
takes_both takes e (accepted h m) k = accepted h (takes_both takes e m k)
takes_both takes e (stopped h) k = absurd (cc)

module _ {P : Type 0} {next : List PlainReply → Option PlainRequest} {tells : P → List Passed → Type 0} where
  -- further calls, and then one that fails
  pub breaks_after : {p q r : P} {a b c : List PlainReply} {fault : ReadFault} → Extends next tells p q a b → Breaks next tells q r b fault c → Breaks next tells p r a fault c
  breaks_after {c = c} {fault = fault} x y = let all = went_on (λ l. ReadFails next [] c l fault) x y.more y.logs y.fails in record { more = all.0; logs = all.1; fails = all.2 }

  pub extends_none : (p : P) (a : List PlainReply) → Extends next tells p p a a
  extends_none p a = record { more = []; logs = alone tells p; follows = λ passed f. subst (CallsFollow next a) (sym (append-nil passed)) f }

  -- the calls end, since one has no reply
  no_reply_fails : {p q : P} {replies later : List PlainReply} (name : TapeRequest) (why : CallFault) → (x : Finishes next tells p q replies (Some why) later) → (passed : List Passed) → CallsFollow next replies passed
      → TapeFails next later (passed ++ x.more) name (NoReply why)
  no_reply_fails name call.ConnectionEnded x passed f = x.stops passed f
  no_reply_fails name call.Botched x passed f = inl (x.stops passed f)
  no_reply_fails name call.OutOfMemory x passed f = x.stops passed f

  pub no_reply_so : {p q : P} {replies later : List PlainReply} (fault : TapeFault) (why : CallFault) → fault.cause ≡ NoReply why → Finishes next tells p q replies (Some why) later → records_of later ≡ records_of replies
      → IsBeginningOf replies later → CallSteps next tells p q replies (Err (Tape fault))
  no_reply_so {later = later} fault why e x same on = (
    later,
    record { more = x.more; logs = x.logs; fails = λ passed f. subst (TapeFails next later (passed ++ x.more) fault.request) (sym e) (no_reply_fails fault.request why x passed f) },
    same,
    refl,
    on,
  )

  -- a call is refused, or has no reply
  failed_so : {p q : P} {replies : List PlainReply} {request : PlainRequest} (name : TapeRequest) (fault : TapeFault) (cause : TapeCause) → fault.cause ≡ cause → fault.request ≡ name → IsNamed name request
      → next replies ≡ Some request → EndsAtRefusal next replies → HasCause tells request p q cause → CallSteps next tells p q replies (Err (Tape fault))
  failed_so {replies = replies} {request} name fault (Refused n) e same is asks stops (text, h) =
      let x = reply_extends {tells = tells} (Error n text) asks h in
      let named = subst (λ r. IsNamed r request) (sym same) is in
      let fails : (passed : List Passed) → CallsFollow next replies passed → TapeFails next (replies ++ Error n text ∷ []) (passed ++ x.more) fault.request (Refused n) =
      λ passed f. (x.follows passed f, (replies, text, request, refl, asks, named), stops n text) in (
        replies ++ Error n text ∷ [],
        record { more = x.more; logs = x.logs; fails = λ passed f. subst (TapeFails next (replies ++ Error n text ∷ []) (passed ++ x.more) fault.request) (sym e) (fails passed f) },
        records_same replies (Error n text ∷ []) refl,
        refl,
        (Error n text ∷ [], refl),
      )
  failed_so {replies = replies} name fault (NoReply why) e same is asks stops h = no_reply_so fault why e (call_finishes {tells = tells} asks h) refl (beginning_same replies)

  -- a request fails, when it is the next one
  pub step_failed : {p q : P} {replies : List PlainReply} {request : PlainRequest} (name : TapeRequest) (fault : TapeFault) → IsNamed name request → next replies ≡ Some request → EndsAtRefusal next replies
      → HasFailed tells name request p q fault → CallSteps next tells p q replies (Err (Tape fault))
  step_failed name fault is asks stops h = failed_so name fault fault.cause refl h.0 is asks stops h.1

-- the records after the label that were given to the sink so far: there are `turn` with the label
pub record GivenTo {P S : Type 0} (next : List PlainReply → Option PlainRequest) (tells : P → List Passed → Type 0) (takes : S → S → SinkCall → Bool → Type 0) (replies : List PlainReply)
    (p q : P) (s t : S) (turn : ℕ) : Type 0 where
  pub reads : List PlainReply
  pub are : AreRecords 1 turn reads
  pub extends : Extends next tells p q replies (replies ++ reads)
  pub took : Takes takes s t (blocks_from 0 (records_of reads)) true

-- what the first record is
first_record : (replies : List PlainReply) (bytes : List ℕ) → records_of replies ≡ [] → records_of (replies ++ Data bytes ∷ []) ≡ bytes ∷ []
first_record replies bytes none = records_more replies (Data bytes ∷ []) ∙ ap (λ l. l ++ bytes ∷ []) none

module _ {P : Type 0} (tells : P → List Passed → Type 0) (device : List ℕ) (after : AfterVolume) (c : Bool) (replies : List PlainReply) (fresh : IsAtLabel replies) (p q : P) where
  label_came : (bytes : List ℕ) → IsCalled tells (Read RECORD_LIMIT) (Ok (Data bytes)) p q → Extends (next_of device after c) tells p q replies (replies ++ Data bytes ∷ [])
  label_came bytes h = reply_extends (Data bytes) (read_next (next_of device after c) after c 0 replies (label_goes device after c replies fresh)) h

  after_label : (result : Result ℕ ReadFault) (r : P) (b : ℕ) (bytes : List ℕ) (more : List (List ℕ)) (later : List PlainReply) → IsCalled tells (Read RECORD_LIMIT) (Ok (Data (b ∷ bytes))) p q
      → records_of later ≡ (b ∷ bytes) ∷ more → Reads (next_of device after c) tells q r (replies ++ Data (b ∷ bytes) ∷ []) result later → ReadsVolume (next_of device after c) after c tells p r replies result later
  after_label (Ok n) r b bytes more later h all y = (
    extends_both (label_came (b ∷ bytes) h) y.0,
    λ ends. ap (λ l. next_of device after c (l ++ ends)) y.1.2 ∙ mark_next (next_of device after c) after c n y.1.0 (reading_goes device after c n y.1.0 y.1.1) ends,
    ap (after_for_records after) all ∙ (let some = records_count 1 n y.1.1.4 y.1.1.7 in grind (arith, nat_tests)),
  )
  after_label (Err fault) r b bytes more later h all y = breaks_after (label_came (b ∷ bytes) h) y

module _ {P S : Type 0} {tells : P → List Passed → Type 0} {takes : S → S → SinkCall → Bool → Type 0} (device : List ℕ) (after : AfterVolume) (c : Bool) {replies : List PlainReply} where
  module _ (reading : IsVolumeReading 1 replies) {p q : P} {s t : S} {turn : ℕ} (w : GivenTo (next_of device after c) tells takes replies p q s t turn) where
    -- a read is next
    goes : GoesOnBy (next_of device after c) (next_read after c turn) (replies ++ w.reads)
    goes = reading_goes device after c turn (replies ++ w.reads) (reading_more 1 turn replies w.reads reading w.are)

    came : {r : P} (bytes : List ℕ) → IsCalled tells (Read RECORD_LIMIT) (Ok (Data bytes)) q r → Extends (next_of device after c) tells p r replies ((replies ++ w.reads) ++ Data bytes ∷ [])
    came bytes h = extends_both w.extends (reply_extends (Data bytes) (read_next (next_of device after c) after c turn (replies ++ w.reads) goes) h)

    -- the sink is given what these replies have
    took_more : {u : S} {whole : Bool} (ends : List PlainReply) → Takes takes t u (blocks_from (turn - 1) (records_of ends)) whole → Takes takes s u (blocks_from 0 (records_of (w.reads ++ ends))) whole
    took_more {u} {whole} ends took = let many = records_count 1 turn w.reads w.are in
        subst (λ l. Takes takes s u l whole) (sym (blocks_more 0 1 turn (turn - 1) w.reads ends w.are (omega (arith, many)))) (takes_both takes refl w.took took)

    given_with : {u : S} {v : P} {result : Result ℕ ReadFault} (ends later : List PlainReply) → records_of later ≡ records_of ((replies ++ w.reads) ++ ends)
        → OnlyTheLastIsEmpty (records_of ends) → Takes takes t u (blocks_from (turn - 1) (records_of ends)) (is_taken result) → Reads (next_of device after c) tells p v replies result later
        → AreRecordsGiven (next_of device after c) (sink_kind tells takes) replies (sink_ends p s) (sink_ends v u) result
    given_with ends later same only took reads = record {
      later = later;
      more = records_of (w.reads ++ ends);
      adds = same ∙ ap records_of (append_assoc replies w.reads ends) ∙ records_more replies (w.reads ++ ends);
      only = only_more 1 turn w.reads ends w.are only;
      took = took_more ends took;
      reads = reads;
    }

    -- the next record is accepted
    pub given_one : {r : P} {u : S} (bytes : List ℕ) → IsCalled tells (Read RECORD_LIMIT) (Ok (Data bytes)) q r → bytes ≢ [] → takes t u (Block (turn - 1) bytes) true
        → GivenTo (next_of device after c) tells takes replies p r s u (turn + 1)
    given_one [] h some taken = absurd (some refl)
    given_one {r = r} (b ∷ bytes) h some taken = record {
      reads = w.reads ++ Data (b ∷ bytes) ∷ [];
      are = records_both 1 turn (turn + 1) w.reads (Data (b ∷ bytes) ∷ []) w.are refl;
      extends = subst (Extends (next_of device after c) tells p r replies) (append_assoc replies w.reads (Data (b ∷ bytes) ∷ [])) (came (b ∷ bytes) h);
      took = took_more (Data (b ∷ bytes) ∷ []) (accepted taken nothing);
    }

    -- the end of the records
    pub given_all : {r : P} (bytes : List ℕ) → IsCalled tells (Read RECORD_LIMIT) (Ok (Data bytes)) q r → bytes ≡ []
        → AreRecordsGiven (next_of device after c) (sink_kind tells takes) replies (sink_ends p s) (sink_ends r t) (Ok turn)
    given_all bytes h none = given_with (Data [] ∷ []) _ refl refl nothing
        (came [] (rw none at h), (replies ++ w.reads, reading_more 1 turn replies w.reads reading w.are, refl))

    -- a record that the sink does not accept
    pub given_in_part : {r : P} {u : S} (bytes : List ℕ) → IsCalled tells (Read RECORD_LIMIT) (Ok (Data bytes)) q r → bytes ≢ [] → takes t u (Block (turn - 1) bytes) false
        → AreRecordsGiven (next_of device after c) (sink_kind tells takes) replies (sink_ends p s) (sink_ends r u) (Err Stopped)
    given_in_part [] h some refused = absurd (some refl)
    given_in_part (b ∷ bytes) h some refused =
        let all = came (b ∷ bytes) h in
        let read = reading_more turn (turn + 1) (replies ++ w.reads) (Data (b ∷ bytes) ∷ []) (reading_more 1 turn replies w.reads reading w.are) refl in
        given_with (Data (b ∷ bytes) ∷ []) _ refl tt (stopped refused)
        (record { more = all.more; logs = all.logs; fails = λ passed k. (all.follows passed k, read_next (next_of device after c) after c (turn + 1) ((replies ++ w.reads) ++ Data (b ∷ bytes) ∷ []) (reading_goes device after c (turn + 1) ((replies ++ w.reads) ++ Data (b ∷ bytes) ∷ []) read)) })

    -- a record that does not come
    pub given_so_far : {r : P} (fault : TapeFault) → HasFailed tells asked.Read (Read RECORD_LIMIT) q r fault → AreRecordsGiven (next_of device after c) (sink_kind tells takes) replies (sink_ends p s) (sink_ends r t) (Err (Tape fault))
    given_so_far fault h =
        let x = step_failed asked.Read fault (RECORD_LIMIT, refl) (read_next (next_of device after c) after c turn (replies ++ w.reads) goes) (λ number text. goes (Error number text ∷ [])) h in
        given_with [] x.0 (x.2 ∙ ap records_of (sym (append-nil (replies ++ w.reads)))) tt (subst (Takes takes t t []) (sym x.3) nothing) (breaks_after w.extends x.1)

    -- no end
    pub given_for_good : (fault : TapeFault) → fault.cause ≡ NoReply call.Botched → 2 ^ 64 - 1 ≤ turn → AreRecordsGiven (next_of device after c) (sink_kind tells takes) replies (sink_ends p s) (sink_ends q t) (Err (Tape fault))
    given_for_good fault e many =
        let long = records_count 1 turn w.reads w.are in given_with [] (replies ++ w.reads) (ap records_of (sym (append-nil (replies ++ w.reads)))) tt nothing
        (record { more = w.extends.more; logs = w.extends.logs; fails = λ passed k. subst (TapeFails (next_of device after c) (replies ++ w.reads) (passed ++ w.extends.more) fault.request) (sym e) (inr (w.extends.follows passed k, (omega (arith, length-append replies w.reads, ap length reading.5, long, many)))) })

  -- what was given when these records were read, the label first
  given_label : {p r : P} {s u : S} {result : Result ℕ ReadFault} (later : List PlainReply) (records : List (List ℕ)) → records_of later ≡ records → OnlyTheLastIsEmpty records
      → Takes takes s u (calls_of records) (is_taken result) → ReadsVolume (next_of device after c) after c tells p r replies result later
      → IsGiven (next_of device after c) after c (sink_kind tells takes) replies (sink_ends p s) (sink_ends r u) result
  given_label {s = s} {u = u} {result = result} later records e only took reads =
      record { later = later; only = subst OnlyTheLastIsEmpty (sym e) only; took = subst (λ l. Takes takes s u (calls_of l) (is_taken result)) (sym e) took; reads = reads }

  -- a call before the first record fails
  pub given_none : {p q : P} (s : S) (fault : ReadFault) → records_of replies ≡ [] → CallSteps (next_of device after c) tells p q replies (Err fault)
      → IsGiven (next_of device after c) after c (sink_kind tells takes) replies (sink_ends p s) (sink_ends q s) (Err fault)
  given_none s fault none x = given_label x.0 [] (x.2 ∙ none) tt (subst (Takes takes s s []) (sym x.3) nothing) x.1

  module _ (fresh : IsAtLabel replies) {p q : P} where
    -- the first record does not come
    pub given_unread : (s : S) (fault : TapeFault) → HasFailed tells asked.Read (Read RECORD_LIMIT) p q fault → IsGiven (next_of device after c) after c (sink_kind tells takes) replies (sink_ends p s) (sink_ends q s) (Err (Tape fault))
    given_unread s fault h =
        let goes = label_goes device after c replies fresh in given_none s (Tape fault) fresh.4 (step_failed asked.Read fault (RECORD_LIMIT, refl) (read_next (next_of device after c) after c 0 replies goes) (λ number text. goes (Error number text ∷ [])) h)

    -- a mark comes in its place
    pub given_mark : (s : S) (bytes : List ℕ) → IsCalled tells (Read RECORD_LIMIT) (Ok (Data bytes)) p q → bytes ≡ []
        → IsGiven (next_of device after c) after c (sink_kind tells takes) replies (sink_ends p s) (sink_ends q s) (Ok 0)
    given_mark s bytes h none = given_label _ ([] ∷ []) (first_record replies [] fresh.4) refl nothing
        (label_came tells device after c replies fresh p q [] (rw none at h), mark_next (next_of device after c) after c 0 replies (label_goes device after c replies fresh), ap (after_for_records after) (first_record replies [] fresh.4))

    -- the sink does not accept the label
    pub given_unlabelled : {s t : S} (bytes : List ℕ) → IsCalled tells (Read RECORD_LIMIT) (Ok (Data bytes)) p q → bytes ≢ [] → takes s t (Label bytes) false
        → IsGiven (next_of device after c) after c (sink_kind tells takes) replies (sink_ends p s) (sink_ends q t) (Err Stopped)
    given_unlabelled [] h some refused = absurd (some refl)
    given_unlabelled (b ∷ bytes) h some refused =
        let x = label_came tells device after c replies fresh p q (b ∷ bytes) h in
        let goes = reading_goes device after c 1 (replies ++ Data (b ∷ bytes) ∷ []) (label_read replies b bytes fresh) in
        given_label _ ((b ∷ bytes) ∷ []) (first_record replies (b ∷ bytes) fresh.4) tt (stopped refused)
        (record { more = x.more; logs = x.logs; fails = λ passed k. (x.follows passed k, read_next (next_of device after c) after c 1 (replies ++ Data (b ∷ bytes) ∷ []) goes) })

    -- it does, and is given the records, or a part of them
    pub given_so : {r : P} {s t u : S} {result : Result ℕ ReadFault} (bytes : List ℕ) → IsCalled tells (Read RECORD_LIMIT) (Ok (Data bytes)) p q → bytes ≢ [] → takes s t (Label bytes) true
        → (IsVolumeReading 1 (replies ++ Data bytes ∷ []) → AreRecordsGiven (next_of device after c) (sink_kind tells takes) (replies ++ Data bytes ∷ []) (sink_ends q t) (sink_ends r u) result)
        → IsGiven (next_of device after c) after c (sink_kind tells takes) replies (sink_ends p s) (sink_ends r u) result
    given_so [] h some labelled given = absurd (some refl)
    given_so {r = r} {result = result} (b ∷ bytes) h some labelled given =
        let w = given (label_read replies b bytes fresh) in
        let all : records_of w.later ≡ (b ∷ bytes) ∷ w.more = w.adds ∙ ap (λ l. l ++ w.more) (first_record replies (b ∷ bytes) fresh.4) in
        given_label w.later ((b ∷ bytes) ∷ w.more) all w.only (accepted labelled w.took) (after_label tells device after c replies fresh p q result r b bytes w.more w.later h all w.reads)

module _ {P S : Type 0} {tells : P → List Passed → Type 0} {takes : S → S → SinkCall → Bool → Type 0} {device : List ℕ} {after : AfterVolume} where
  -- the records fail
  pub through_part : {p q r : P} {s t : S} {replies : List PlainReply} (fault : ReadFault) → Extends (next_of device after false) tells p q [] replies
      → IsGiven (next_of device after false) after false (sink_kind tells takes) replies (sink_ends q s) (sink_ends r t) (Err fault) → HasReadVolume (sink_kind tells takes) device after (sink_ends p s) (sink_ends r t) (Err fault)
  through_part {s = s} {t} fault x y =
      let all = breaks_after x y.reads in
      let took = subst (λ l. Takes takes s t l (is_whole (Err fault))) (sym (append-nil (calls_of (records_of y.later)))) y.took in
      record { completed = false; replies = y.later; more = all.more; end = []; logs = all.logs; reads = y.only; took = took; ending = unasked; ends = all.fails }

  -- what comes after the records
  pub through_end : (c : Bool) {p q r v : P} {s t u : S} {replies : List PlainReply} {n : ℕ} {goes : AfterVolume} {result : Result Unit ReadFault} → Extends (next_of device after c) tells p q [] replies
      → (y : IsGiven (next_of device after c) after c (sink_kind tells takes) replies (sink_ends q s) (sink_ends r t) (Ok n)) → goes ≡ after_for_count after n
      → HasConcluded (next_of device after c) goes c (sink_kind tells takes) y.later (sink_ends r t) (sink_ends v u) result → HasReadVolume (sink_kind tells takes) device after (sink_ends p s) (sink_ends v u) result
  through_end c {s = s} {u = u} {goes = goes} {result = result} x y e z =
      let next = next_of device after c in
      let goes_so : goes ≡ after_for_records after (records_of z.later) = e ∙ sym y.reads.2 ∙ ap (after_for_records after) (sym z.same) in
      let all = went_on (λ l. ReadEnds next goes z.end z.later l result) (extends_both x y.reads.0) z.more z.logs z.ends in
      record {
        completed = c;
        replies = z.later;
        more = all.0;
        end = z.end;
        logs = all.1;
        reads = subst OnlyTheLastIsEmpty (sym z.same) y.only;
        took = subst (λ l. Takes takes s u (calls_of l ++ z.end) (is_whole result)) (sym z.same) (takes_both takes refl y.took z.took);
        ending = subst (λ g. IsEnding next g z.later result z.end c) goes_so z.ending;
        ends = λ passed k. subst (λ g. ReadEnds next g z.end z.later (passed ++ all.0) result) goes_so (all.2 passed k);
      }

-- the result of a test for no bytes
empty : (items : List ℕ) → length items ≡ 0 → items ≡ []
empty [] e = refl
empty (b ∷ items) e = absurd (omega (arith, e))

pub none_there : (bytes : List ℕ) {test : Bool} → test ≡ nat_eq (length bytes) 0 → test ≡ true → bytes ≡ []
none_there bytes e h = empty bytes (grind (arith, nat_tests))

pub some_there : (bytes : List ℕ) {test : Bool} → test ≡ nat_eq (length bytes) 0 → test ≡ false → bytes ≢ []
some_there bytes e h none = grind (arith, nat_tests)

-- the result of a request to a tape, as one of reading a volume
abbrev pub tape_result : Result Unit TapeFault → Result Unit ReadFault
tape_result (Ok u) = Ok u
tape_result (Err fault) = Err (Tape fault)

-- after the open the rewind, or why it was not done
pub begun_both : {P : Type 0} (tells : P → List Passed → Type 0) (device : List ℕ) (after : AfterVolume) (c : Bool) (p q r : P) (opened : PlainReply) (result : Result Unit ReadFault) → records_of (opened ∷ []) ≡ []
    → Extends (next_of device after c) tells p q [] (opened ∷ []) → IsDone (next_of device after c) tells q r (opened ∷ []) result → IsBegun tells device after c p r result
begun_both tells device after c p q r opened (Ok u) none x y = (opened, y.0, y.1, records_same (opened ∷ []) (y.0 ∷ []) y.2 ∙ none, extends_both x y.3)
begun_both tells device after c p q r opened (Err fault) none x y = (y.0, breaks_after x y.1, y.2 ∙ none, y.3, (y.0, refl))

-- a request that was made when it was the next one
pub asked_next : {P : Type 0} (tells : P → List Passed → Type 0) (p q : P) {request : PlainRequest} (name : TapeRequest) (result : Result Unit TapeFault) → IsNamed name request → IsAsked tells name request p q result
    → IsDoneNext tells request p q (tape_result result)
asked_next tells p q name (Ok u) is h = λ next replies asks stops. (Done h.0, refl, refl, reply_extends (Done h.0) asks h.1)
asked_next tells p q name (Err fault) is h = λ next replies asks stops. step_failed name fault is asks stops h
