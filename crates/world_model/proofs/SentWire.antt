-- What a reader of requests has of a text that a client sent, and a reader of replies of a text that a server sent.
-- How many steps come before a step, and what is left of a session's state when its side is another.
use Rattle.world_model.proofs.Basics.{◌≡◌, ◌≢◌, ◌⊎◌, ◌↔◌, ℕ, suc, ◌+◌, ◌<◌, ◌≤◌, Bool, true, false, List, [], ◌∷◌, ◌++◌, length, length-append, take, drop, replicate, Option, Some, None, Result, Ok, Err, append_assoc, append-nil, refl, sym, ap, subst, ◌∙◌, arith, take_at, take-append-drop, length-replicate, length-take-le, nil_from_length, length-drop, zero, ◌-◌, ◌^◌, nat_lt}
use Rattle.world_model.proofs.Terms.{READER_LIMIT, RECORD_LIMIT, SpellsNumber, line_feed, PlainRequest, SpellsRequest, WriteDropped, PlainReply, Wanted, SpellsReply, reply_text, text_len, kept_text, kept_behind, ReplyParsesAs, ReplyHeld, ReplyUnread, Parsed, ParsesAs, IsDroppedLine, RequestHeld, held, Unread, UnreadAt, WireFault, FitsReplyReader, raised, ServerConnection, PlainRun, IsRun, steps_before, blocks_from, Step, Open, Operation, Look, Label, Block, Close, Rewind, RewindAgain, Mark, Unload, AttemptState, HasDone}
use Rattle.rmt_wire.specs.ReplyFront.{kept_of}
use Rattle.rmt_wire.specs.RequestReader.{dropped_line}

-- At each place a reader can give one thing only.
abbrev pub OneReading : Type 0
OneReading =
    (bytes rest other : List ℕ) (answer another : Result (Option PlainRequest) WireFault) → ParsesAs bytes answer rest
    → ParsesAs bytes another other → (answer ≡ another) × (rest ≡ other)

-- a write is to be dropped exactly where the grammar says so
abbrev pub DroppedWrites : Type 0
DroppedWrites = (bytes : List ℕ) (len count : ℕ) → (dropped_line bytes ≡ Some (len, count)) ↔ IsDroppedLine bytes len count

pub fresh_unread : Unread (held [] 0) []
unfolding dropped_line
fresh_unread = (refl, refl)

-- what is unread begins with the line of a write that is to be dropped
abbrev pub BeginsLong : List ℕ → Type 0
BeginsLong bytes = (number behind : List ℕ) × (count : ℕ) × SpellsNumber number count × (RECORD_LIMIT < count) × (bytes ≡ 87 ∷ (number ++ line_feed ∷ behind))

line_of_write : (kept number rest : List ℕ) (len : ℕ) → kept ≡ 87 ∷ (number ++ line_feed ∷ rest) → len ≡ length number + 2
    → take len kept ≡ 87 ∷ (number ++ line_feed ∷ [])
line_of_write kept number rest len is long =
    let front : kept ≡ (87 ∷ (number ++ line_feed ∷ [])) ++ rest = is ∙ ap (λ l. 87 ∷ l) (sym (append_assoc number (line_feed ∷ []) rest)) in
    grind (arith, length-append, take_at)

long_read : (h : RequestHeld) (line : ℕ × ℕ) (bytes : List ℕ) → IsDroppedLine h.kept line.0 line.1 → UnreadAt (Some line) h bytes → BeginsLong bytes
long_read h line bytes d (gone, many, few, is) = (
  d.number,
  gone ++ drop line.0 h.kept,
  line.1,
  d.spelled,
  d.large,
  is ∙ ap (λ l. l ++ (gone ++ drop line.0 h.kept)) (line_of_write h.kept d.number d.rest line.0 d.split d.long)
      ∙ ap (λ l. 87 ∷ l) (append_assoc d.number (line_feed ∷ []) (gone ++ drop line.0 h.kept)),
)

-- of a text that no such line begins one thing is unread only
one_read_at : DroppedWrites → (h : RequestHeld) (bytes other : List ℕ) (o : Option (ℕ × ℕ)) → dropped_line h.kept ≡ o → (BeginsLong bytes → ⊥)
    → UnreadAt o h bytes → UnreadAt o h other → bytes ≡ other
one_read_at g h bytes other None is short one two = one.1 ∙ sym two.1
one_read_at g h bytes other (Some line) is short one two = absurd (short (long_read h line bytes ((g h.kept line.0 line.1).0 is) one))

pub one_read : DroppedWrites → (h : RequestHeld) (bytes other : List ℕ) → (BeginsLong bytes → ⊥) → Unread h bytes → Unread h other → bytes ≡ other
one_read g h bytes other short one two = one_read_at g h bytes other (dropped_line h.kept) refl short one two

-- after the text of a request there is room for all that such a line would drop
long_gives : (number behind pad : List ℕ) (count : ℕ) → SpellsNumber number count → RECORD_LIMIT < count → count ≤ length (behind ++ pad)
    → ParsesAs (87 ∷ (number ++ line_feed ∷ (behind ++ pad))) (Ok (Some (WriteDropped count))) (drop count (behind ++ pad))
long_gives number behind pad count spelled large room = (
  87 ∷ (number ++ line_feed ∷ take count (behind ++ pad)),
  (number, take count (behind ++ pad), spelled, large, length-take-le count (behind ++ pad) room, refl),
  ap (λ l. 87 ∷ (number ++ line_feed ∷ l)) (sym (take-append-drop count (behind ++ pad)))
      ∙ ap (λ l. 87 ∷ l) (sym (append_assoc number (line_feed ∷ take count (behind ++ pad)) (drop count (behind ++ pad)))),
)

pub text_not_long : OneReading → (text bytes more : List ℕ) (request : PlainRequest) → SpellsRequest text request → ((n : ℕ) → request ≢ WriteDropped n)
    → text ≡ bytes ++ more → BeginsLong bytes → ⊥
text_not_long g text bytes more request spelled kept is (number, behind, count, numeral, large, begins) =
    let pad : List ℕ = replicate count 0 in
    let stream : text ++ pad ≡ 87 ∷ (number ++ line_feed ∷ (behind ++ (more ++ pad))) = grind (arith, append_assoc) in
    let other = long_gives number behind (more ++ pad) count numeral large (grind (arith, length-append, length-replicate)) in
    let same = (g (text ++ pad) pad _ (Ok (Some request)) (Ok (Some (WriteDropped count))) (text, spelled, refl)
    (subst (λ l. ParsesAs l (Ok (Some (WriteDropped count))) (drop count (behind ++ (more ++ pad)))) (sym stream) other)).0 in
    kept count (cc)

-- What is given of a text that spells a request, or of a beginning of it, is that request, and then nothing is left.
pub gives_whole : OneReading → (text bytes way rest : List ℕ) (request found : PlainRequest) → SpellsRequest text request → text ≡ bytes ++ way
    → ParsesAs bytes (Ok (Some found)) rest → (found ≡ request) × (rest ≡ []) × (way ≡ [])
gives_whole g text bytes way rest request found spelled is (front, spells, split) =
    let stream : text ≡ front ++ (rest ++ way) = is ∙ ap (λ l. l ++ way) split ∙ append_assoc front rest way in
    let same = g text [] (rest ++ way) (Ok (Some request)) (Ok (Some found)) (text, spelled, sym (append-nil text)) (front, spells, stream) in
    let size : 0 ≡ length (rest ++ way) = ap length same.1 in
    grind (arith, length-append, nil_from_length)

text_within : (text : List ℕ) → text_len text ≤ length text
text_within [] = omega arith
text_within (b ∷ text) = grind (arith, text_within text)

kept_whole : (bytes : List ℕ) → length (kept_of bytes) < 255 → kept_of bytes ≡ bytes
unfolding kept_of
kept_whole [] short = refl
kept_whole (letter ∷ bytes) short = grind (arith, length-append, text_within, length-take-le, take-append-drop)

-- no more is kept than came
text_no_more : (text : List ℕ) → length (kept_text text) ≤ length text
text_no_more text = grind (arith, length-append, text_within, length-take-le, length-drop)

behind_no_more : (o : Parsed (ℕ × ℕ)) (bytes : List ℕ) → length (kept_behind o bytes) ≤ length bytes
behind_no_more (Ok (Some n)) bytes =
    let size = length-append (take (n.1 + 1) bytes) (kept_text (drop (n.1 + 1) bytes)) in
    let less = text_no_more (drop (n.1 + 1) bytes) in
    let parts = length-append (take (n.1 + 1) bytes) (drop (n.1 + 1) bytes) in
    grind (arith, take-append-drop)
behind_no_more o bytes = grind arith

pub no_more_kept : (bytes : List ℕ) → length (kept_of bytes) ≤ length bytes
unfolding kept_of
no_more_kept [] = omega arith
no_more_kept (letter ∷ bytes) = grind (arith, behind_no_more)

-- the bytes of no error are kept whole, and no others as they are
abbrev pub IsNoError : List ℕ → Type 0
IsNoError [] = Unit {0}
IsNoError (letter ∷ bytes) = letter ≢ 69

no_error_kept : (bytes : List ℕ) → IsNoError bytes → kept_of bytes ≡ bytes
unfolding kept_of
no_error_kept bytes other = grind arith

same_error : (bytes : List ℕ) → IsNoError (kept_of bytes) → IsNoError bytes
unfolding kept_of
same_error [] none = tt
same_error (letter ∷ bytes) other = grind arith

-- where few bytes came, or those of no error, these alone
pub one_heard : (h : ReplyHeld) (wanted : Wanted) (bytes other : List ℕ) → (length bytes < 255) ⊎ IsNoError bytes → ReplyUnread h (Some wanted) bytes
    → ReplyUnread h (Some wanted) other → bytes ≡ other
one_heard h wanted bytes other given one two = grind (arith, no_more_kept, kept_whole, no_error_kept, same_error)

-- Of a reply that is kept whole the bytes that came so far are few, or those of no error, and a reader has room for more.
pub brief_begins : (wanted : Wanted) (reply : PlainReply) (bytes way : List ℕ) → FitsReplyReader wanted reply → reply_text reply ≡ bytes ++ way
    → ((length bytes < 255) ⊎ IsNoError bytes) × (length bytes < READER_LIMIT)
brief_begins wanted reply bytes way brief is = grind (arith, length-append)

-- what spells no two replies
abbrev pub OneReply : Type 0
OneReply =
    (wanted : Wanted) (text more : List ℕ) (reply other : PlainReply) → SpellsReply text reply wanted → SpellsReply (text ++ more) other wanted
    → (more ≡ []) × (reply ≡ other)

pub reply_whole : OneReply → (wanted : Wanted) (text bytes way rest : List ℕ) (reply found : PlainReply) → SpellsReply text reply wanted
    → text ≡ bytes ++ way → ReplyParsesAs (Some wanted) bytes (Ok (Some found)) rest → (found ≡ reply) × (rest ≡ []) × (way ≡ [])
reply_whole g wanted text bytes way rest reply found spelled is (front, spells, split) =
    let stream : text ≡ front ++ (rest ++ way) = is ∙ ap (λ l. l ++ way) split ∙ append_assoc front rest way in
    let same = g wanted front (rest ++ way) found reply spells (subst (λ l. SpellsReply l reply wanted) stream spelled) in
    let size : length (rest ++ way) ≡ 0 = ap length same.0 in
    grind (arith, length-append, nil_from_length)

-- a beginning of a reply has no fault
pub reply_no_fault : (wanted : Wanted) (text bytes way rest : List ℕ) (reply : PlainReply) (fault : WireFault) → SpellsReply text reply wanted
    → text ≡ bytes ++ way → ReplyParsesAs (Some wanted) bytes (Err fault) rest → ⊥
reply_no_fault wanted text bytes way rest reply fault spelled is (f, none, same) =
    let stream : text ≡ (f.seen ++ f.byte ∷ []) ++ (f.later ++ way)
    = is ∙ ap (λ l. l ++ way) f.split ∙ append_assoc f.seen (f.byte ∷ f.later) way ∙ sym (append_assoc f.seen (f.byte ∷ []) (f.later ++ way)) in
    f.hopeless (f.later ++ way, reply, subst (λ l. SpellsReply l reply wanted) stream spelled)

-- a block more, where one is left
abbrev pub one_if : Bool → ℕ
one_if true = 1
one_if false = 0

abbrev pub steps_len : PlainRun → ℕ → ℕ → Step → ℕ
steps_len run first next Open = 0
steps_len run first next (Operation Rewind) = 1
steps_len run first next Look = 2
steps_len run first next (Operation RewindAgain) = 3
steps_len run first next Label = 4
steps_len run first next (Block number) = 5 + (number - first)
steps_len run first next (Operation (Mark end)) = 5 + (end - first) + one_if (nat_lt end run.blocks)
steps_len run first next (Operation (Unload end)) = 6 + (end - first) + one_if (nat_lt end run.blocks)
steps_len run first next Close = 7 + (next - first) + one_if (nat_lt next run.blocks)

blocks_length : (first count : ℕ) → length (blocks_from first count) ≡ count
blocks_length first zero = refl
blocks_length first (suc count) = let on = blocks_length (suc first) count in omega (arith, on)

pub before_length : (run : PlainRun) (first next : ℕ) (step : Step) → length (steps_before run first next step) ≡ steps_len run first next step
before_length run first next step = grind (arith, blocks_length, length-append)

-- a count that is far from the greatest u64 is raised by one
pub raised_one : (n : ℕ) → n + 1 < 2 ^ 64 → raised n ≡ n + 1
raised_one n small = omega (arith, small)

-- an attempt has few steps
pub done_few : (run : PlainRun) (o : Option ServerConnection) (d : AttemptState) (step : Step) → IsRun run → HasDone run o d step → d.carried + 1 < 2 ^ 64
done_few run o d step good h = grind (arith, before_length)

-- the side is over, or its session stays
pub moved_done : (run : PlainRun) (o p : Option ServerConnection) (d : AttemptState) (step : Step)
    → ((s : ServerConnection) → p ≡ Some s → (x : ServerConnection) × (o ≡ Some x) × (s.session ≡ x.session)) → HasDone run o d step → HasDone run p d step
moved_done run o p d step same h = grind arith
