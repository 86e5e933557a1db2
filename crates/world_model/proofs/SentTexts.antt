-- What a writer writes spells its request, or its reply, and the label of a lawful client fits a record.
use Rattle.world_model.proofs.Basics.{◌≡◌, ℕ, ◌+◌, ◌^◌, ◌<◌, ◌≤◌, List, [], ◌∷◌, length, length-append, decimal, append_assoc, append-nil, refl, sym, ap, inl, arith, AllDigits, decimal_is_IsNumeral, length-decimal-le, take_all, nil_from_length, length-replicate}
use Rattle.world_model.proofs.Terms.{SpellsNumber, HasNoLineFeed, IsLine, line_feed, PlainRequest, SpellsRequest, IsTextOf, request_text, unsent, Write, WriteDropped, Read, Op, Done, Data, Error, Number, DataUpTo, PlainRun, IsRun, label_lines, VolumeCount, RECORD_LIMIT, HasSpelling, PlainReply, ReplyHasSpelling, Wanted, AnswersTo, SpellsReply, reply_text, Standing, checkpoint_of, IsLawful, label}
use Rattle.rmt_wire.specs.Request.PlainRequest.{Open, Close}
use Rattle.dump_client.specs.Standing.{checkpoint_after}
use Rattle.dump_client.specs.Lawful.{AreVolumes}

decimal_spells : (n : ℕ) → n ≤ 2147483647 → SpellsNumber (decimal n) n
decimal_spells n small =
    let fits : n < 2 ^ 64 = omega arith in
    let numeral = decimal_is_IsNumeral n fits in
    let few = length-decimal-le 10 n (omega arith) (omega arith) (omega arith) in
    grind arith

pub reply_texts : (reply : PlainReply) → ReplyHasSpelling reply → (wanted : Wanted) → AnswersTo reply wanted → SpellsReply (reply_text reply) reply wanted
reply_texts (Done n) spelled Number answers = (decimal n, decimal_spells n spelled, refl)
reply_texts (Data bytes) spelled (DataUpTo most) answers = (decimal (length bytes), decimal_spells (length bytes) spelled, answers, refl)
reply_texts (Error n text) spelled wanted answers = (decimal n, text, decimal_spells n spelled.0, spelled.2, sym (take_all 255 text spelled.1), refl)
reply_texts given known likewise besides = grind arith

digits_no_feed : (digits : List ℕ) → AllDigits 10 digits → HasNoLineFeed digits
digits_no_feed [] h = tt
digits_no_feed (d ∷ digits) h = grind (arith, digits_no_feed digits)

decimal_line : (n : ℕ) → n ≤ 2147483647 → IsLine (decimal n)
decimal_line n small =
    let s = decimal_spells n small in
    grind (arith, digits_no_feed)

-- a text that spells its request, with nothing after it
whole_text : (request : PlainRequest) → unsent request ≡ 0 → SpellsRequest (request_text request) request → IsTextOf (request_text request) request
whole_text request none s = grind (arith, nil_from_length, append-nil)

pub request_texts : (request : PlainRequest) → HasSpelling request → IsTextOf (request_text request) request
request_texts (Open device mode) h = whole_text (Open device mode) refl (decimal mode, h.0, (decimal_line mode h.1, inl (decimal_spells mode h.1)), refl)
request_texts Close h = whole_text Close refl ([], (omega arith, tt), refl)
request_texts (Write written) h = whole_text (Write written) refl (decimal (length written), decimal_spells (length written) (omega arith), h, refl)
request_texts (WriteDropped count) h =
    λ more long. (decimal count, more, decimal_spells count h.1, h.0, long, ap (λ l. 87 ∷ l) (append_assoc (decimal count) (line_feed ∷ []) more))
request_texts (Read count) h = whole_text (Read count) refl (decimal count, decimal_spells count h, refl)
request_texts (Op op count) h = whole_text (Op op count) refl (decimal op, decimal count, decimal_spells op h.0, decimal_spells count h.1, refl)

-- volumes but the last have a block, so there are few
pub volumes_from : (run : PlainRun) (volume first : ℕ) (c : VolumeCount) (counts : List VolumeCount) → AreVolumes run volume first (c ∷ counts)
    → AreVolumes run (c.volume + 1) (c.first + c.count) counts
volumes_from run volume first c counts v = grind arith

pub few_volumes : (run : PlainRun) (volume first : ℕ) (counts : List VolumeCount) → volume ≤ first + 1 → first ≤ run.blocks → AreVolumes run volume first counts
    → ((checkpoint_after volume first counts).0 ≤ run.blocks + 2) × ((checkpoint_after volume first counts).1 ≤ run.blocks)
few_volumes run volume first (c ∷ d ∷ counts) at h v = grind (arith, few_volumes run (c.volume + 1) (c.first + c.count) (d ∷ counts), volumes_from)
few_volumes run volume first counts at h v = grind arith

few_digits : (n : ℕ) → n ≤ 999999999999 → length (decimal n) ≤ 12
few_digits n small = length-decimal-le 12 n (omega arith) (omega arith) (omega arith)

pub label_short : (run : PlainRun) (volume first : ℕ) → IsRun run → volume ≤ 999999999999 → first ≤ 999999999999 → length (label_lines run volume first) ≤ 1024
label_short run volume first good v f = grind (arith, few_digits, length-append)

-- the label of a lawful client's next volume fits a record
pub short_labels : (s : Standing) → IsLawful s → length (label s.run (checkpoint_of s.counts).0 (checkpoint_of s.counts).1) ≤ RECORD_LIMIT
short_labels = grind (arith, few_volumes, label_short, length-append, length-replicate)
