-- The bytes of a writer spell its reply or its request, also if the writer writes them in two parts.
use Rattle.rmt_wire.proofs.Words.{Err, List, Ok, OnErr, OnOk, Option, Result, [], ap, append-nil, append_assoc, arith, decimal, inl, length, length-append, min, refl, subst, sym, take, ℕ, ◌++◌, ◌+◌, ◌∙◌, ◌∷◌, ◌≡◌, ◌≤◌, Appends-trans, take-append-add, nil_from_length, take-append-le, take_all, take_min, Appends, SpellsNumber, line_feed, IsLine, PlainRequest, SpellsRequest, HasSpelling, request_text, unsent, IsTextOf, WriteDropped, Open, Close, Write, Read, Op, PlainReply, Wanted, SpellsReply, ReplyHasSpelling, AnswersTo, data_length, reply_text, Error, Done, Data, Number, DataUpTo, IsWithin, AppendsBeginning, RECORD_LIMIT, READER_LIMIT}
use Rattle.rmt_wire.proofs.Align.{digits_no_feed}
use Rattle.std.proofs.lemmas.Fmt.{decimal_is_IsNumeral, length-decimal-le}

-- a number as Rust prints it has at most ten digits
pub decimal_is_short : (n : ℕ) → n ≤ 2147483647 → length (decimal n) ≤ 10
decimal_is_short n small = length-decimal-le 10 n (omega arith) (omega arith) (omega arith)

-- why a letter, a number and a line feed are short
pub ruleset short_heads = (length-append, decimal_is_short)

-- a number as Rust prints it is spelled
pub decimal_spells : (n : ℕ) → n ≤ 2147483647 → SpellsNumber (decimal n) n
decimal_spells n small =
    let d = decimal_is_IsNumeral n (omega arith) in
    record { digits = d.0; few = decimal_is_short n small; value = d.1; small = small }

-- what a writer writes of a reply spells it, for each wanted kind that it is one to
pub reply_text_spells : (reply : PlainReply) → ReplyHasSpelling reply → (wanted : Wanted) → AnswersTo reply wanted
    → SpellsReply (reply_text reply) reply wanted
reply_text_spells (Done n) spelled Number answers = (decimal n, decimal_spells n spelled, refl)
reply_text_spells (Done n) spelled (DataUpTo most) answers = answers
reply_text_spells (Data bytes) spelled Number answers = answers
reply_text_spells (Data bytes) spelled (DataUpTo most) answers =
    (decimal (length bytes), decimal_spells (length bytes) spelled, answers, refl)
reply_text_spells (Error n text) spelled wanted answers =
    (decimal n, text, decimal_spells n spelled.0, spelled.2, sym (take_all 255 text spelled.1), refl)

-- a number as Rust prints it is a line
decimal_is_line : (n : ℕ) → n ≤ 2147483647 → IsLine (decimal n)
decimal_is_line n small = (omega (arith, decimal_is_short n small), digits_no_feed (decimal n) (decimal_spells n small).digits.1)

-- what spells the request with nothing after it
whole_text : (request : PlainRequest) → unsent request ≡ 0 → SpellsRequest (request_text request) request → IsTextOf (request_text request) request
whole_text request none s = λ more long.
    rw (nil_from_length more (long ∙ none), append-nil) s

-- what a writer writes of a request spells it, once the data follow that were dropped
pub request_text_spells : (request : PlainRequest) → HasSpelling request → IsTextOf (request_text request) request
request_text_spells (Open device mode) h =
    whole_text (Open device mode) refl (decimal mode, h.0, (decimal_is_line mode h.1, inl (decimal_spells mode h.1)), refl)
request_text_spells Close h = whole_text Close refl ([], (omega arith, tt), refl)
request_text_spells (Write written) h =
    whole_text (Write written) refl (decimal (length written), decimal_spells (length written) (omega arith), h, refl)
request_text_spells (WriteDropped count) h =
    λ more long. (decimal count, more, decimal_spells count h.1, h.0, long, ap (λ l. 87 ∷ l) (append_assoc (decimal count) (line_feed ∷ []) more))
request_text_spells (Read count) h = whole_text (Read count) refl (decimal count, decimal_spells count h, refl)
request_text_spells (Op op count) h =
    whole_text (Op op count) refl (decimal op, decimal count, decimal_spells op h.0, decimal_spells count h.1, refl)

-- what a writer writes of a reply fits into a reader, where its data are a record's
pub short_reply : (reply : PlainReply) → ReplyHasSpelling reply → data_length reply ≤ RECORD_LIMIT → length (reply_text reply) ≤ READER_LIMIT
short_reply reply h few = grind (arith, length-append {A = ℕ}, decimal_is_short)

-- and they are where it answers one who may wait for it
pub short_answer : (reply : PlainReply) (wanted : Wanted) → AnswersTo reply wanted → IsWithin wanted → data_length reply ≤ RECORD_LIMIT
short_answer reply wanted answers within = grind arith

-- a beginning of the first part went out
pub beginning_of_first : (old new : Option (List ℕ)) (first rest : List ℕ) → AppendsBeginning old new first → AppendsBeginning old new (first ++ rest)
beginning_of_first old new first rest (n, out) =
    (min n (length first), subst (Appends old new) (sym (take-append-le (min n (length first)) first rest (omega arith) ∙ take_min n first)) out)

-- the first part went out, and a beginning of the rest
pub beginning_past_first : (old mid new : Option (List ℕ)) (first rest : List ℕ) → Appends old mid first → AppendsBeginning mid new rest
    → AppendsBeginning old new (first ++ rest)
beginning_past_first old mid new first rest whole (n, out) =
    (length first + n, rw (take-append-add first rest n) (Appends-trans old mid new first (take n rest) whole out))

-- what holds anyway holds at a failure
pub at_failure : {T E P : Type 0} (r : Result T E) → P → OnErr r P
at_failure (Ok x) p = tt
at_failure (Err e) p = p

-- and at a success
pub at_success : {T E P : Type 0} (r : Result T E) → P → OnOk r P
at_success (Ok x) p = p
at_success (Err e) p = tt
