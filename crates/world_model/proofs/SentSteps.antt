-- One call of the reel that a session has in its drive.
-- What the server makes of each request of an attempt.
use Rattle.world_model.proofs.Basics.{◌≡◌, ℕ, arith, ◌⊎◌, ◌≤◌, ◌==◌, Bool, true, false, cond, if◌then◌else◌, List, [], ◌∷◌, length, length-append, decimal, Some, None, MatchOption, ap, ◌∙◌, inr, length-decimal-le, length-take}
use Rattle.world_model.proofs.Terms.{PlainRequest, PlainReply, Tape, TapeAnswer, DeviceStep, Trouble, Both, PlainReel, plain_reel, SessionView, tape_request, reel_reply, Online, TroubledReelStep, HasNoLineFeed, Write, Read, Op, Done, Data, Error, Number, DataUpTo, PlainEntry, Passes, MTREW, TapeFault, refused, text_of, number_of, tape_refusal, TroubledServeStep, TroubledDoneStep, label_bytes, IsOnlineWith, FitsReplyReader}
use Rattle.tape.specs.declared.fault.TapeFault.TheVariants as faults
use Rattle.world_model.proofs.SentTexts.{reply_texts}

-- The drives are as they were, and the session has its drive open still, where its reel has this tape.
pub record IsLeftWith (before after : SessionView) (drive : ℕ) (reel : PlainReel) (t : Tape) : Type 0 where
  pub library : after.library ≡ before.library
  pub session : after.session ≡ Online drive Both (plain_reel t reel.capacity)

-- one call of the open reel
pub record Called (trouble : Trouble) (before after : SessionView) (drive : ℕ) (reel : PlainReel) (request : PlainRequest) (reply : PlainReply) : Type 0 where
  pub answer : TapeAnswer
  pub now : Tape
  pub replies : reply ≡ reel_reply request answer
  pub device : DeviceStep reel.capacity trouble reel.tape (tape_request request) answer now
  pub left : IsLeftWith before after drive reel now

pub called : (trouble : Trouble) (before : SessionView) (request : PlainRequest) (reply : PlainReply) (after : SessionView) (drive : ℕ) (reel : PlainReel)
    → before.session ≡ Online drive Both reel → TroubledReelStep trouble before request reply after → Called trouble before after drive reel request reply
called trouble before request reply after drive reel was (e, access, x, answer, t, online, device, replies, is) = grind arith

-- the text of an error is a line of at most 40 bytes
pub record IsErrorLine (n : ℕ) (text : List ℕ) : Type 0 where
  pub number : n ≤ 2147483647
  pub short : length text ≤ 40
  pub line : HasNoLineFeed text

-- a number, or an error with a short line
abbrev pub IsPlain : PlainReply → Type 0
IsPlain reply = ((n : ℕ) × (n ≤ 2147483647) × (reply ≡ Done n)) ⊎ ((n : ℕ) × (text : List ℕ) × IsErrorLine n text × (reply ≡ Error n text))

is_line : List ℕ → Bool
is_line [] = true
is_line (b ∷ bs) = cond (b == 10) false (is_line bs)

line_means : (text : List ℕ) → is_line text ≡ true → HasNoLineFeed text
unfolding is_line
line_means [] e = tt
line_means (b ∷ bs) e = grind (arith, line_means bs)

tape_line : (why : TapeFault) → IsErrorLine (number_of (tape_refusal why)) (text_of (tape_refusal why))
unfolding is_line
tape_line why = grind (arith, line_means (text_of (tape_refusal why)))

ten_digits : (n : ℕ) → n ≤ 2147483647 → length (decimal n) ≤ 10
ten_digits n small = length-decimal-le 10 n (omega arith) (omega arith) (omega arith)

pub plain_brief : (reply : PlainReply) → IsPlain reply → FitsReplyReader Number reply
plain_brief reply given = grind (arith, reply_texts, ten_digits, length-append)

-- the bytes of a record, of as many as a label has at most, or an error with a short line
abbrev pub IsRecordShown : PlainReply → Type 0
IsRecordShown reply =
    ((bytes : List ℕ) × (length bytes ≤ label_bytes) × (reply ≡ Data bytes)) ⊎ ((n : ℕ) × (text : List ℕ) × IsErrorLine n text × (reply ≡ Error n text))

pub shown_brief : (reply : PlainReply) → IsRecordShown reply → FitsReplyReader (DataUpTo label_bytes) reply
shown_brief reply given = grind (arith, reply_texts, ten_digits, length-append)

-- the session stays online with its drive, for reading and writing
abbrev pub StaysOnline : PlainReply → SessionView → Type 0
StaysOnline reply after = IsPlain reply × ((reel : PlainReel) × IsOnlineWith after.session reel)

write_called : (trouble : Trouble) (before : SessionView) (bytes : List ℕ) (reply : PlainReply) (after : SessionView) (drive : ℕ) (reel : PlainReel) (b : Bool)
    → length bytes ≤ 2147483647 → before.session ≡ Online drive Both reel
    → MatchOption (if b then Some (tape_refusal faults.BadOperation) else None) (TroubledDoneStep trouble before (Write bytes) reply after)
    (λ r. (reply ≡ refused r) × (after ≡ before)) → StaysOnline reply after
write_called trouble before bytes reply after drive reel true few was (replies, is) =
    (inr (_, _, tape_line faults.BadOperation, replies), (reel, (drive, ap (λ (v : SessionView). v.session) is ∙ was)))
write_called trouble before bytes reply after drive reel false few was done =
    let c = called trouble before (Write bytes) reply after drive reel was done in
    ((grind arith), (plain_reel c.now reel.capacity, (drive, c.left.session)))

pub write_online : (trouble : Trouble) (holders : List ℕ) (before : SessionView) (bytes : List ℕ) (reply : PlainReply) (after : SessionView) (drive : ℕ) (reel : PlainReel)
    → length bytes ≤ 2147483647 → before.session ≡ Online drive Both reel → TroubledServeStep trouble holders before (Write bytes) reply after → StaysOnline reply after
write_online trouble holders before bytes reply after drive reel few was step = grind (arith, write_called)

-- of a record no more bytes are given than were asked for
passed_few : (count : ℕ) (way : List PlainEntry) (t u : Tape) (bytes : List ℕ) → Passes count way t bytes u → length bytes ≤ count
passed_few count way t u bytes given = grind (arith, length-take)

-- the reel is at its beginning, where the request was done
abbrev pub StandsFirst : PlainReply → SessionView → Type 0
StandsFirst reply after = IsPlain reply × ((n : ℕ) → reply ≡ Done n → (reel : PlainReel) × IsOnlineWith after.session reel × (reel.tape.before ≡ []))

module _ (trouble : Trouble) (holders : List ℕ) (before : SessionView) (reply : PlainReply) (after : SessionView) (drive : ℕ) (reel : PlainReel) where
  -- the first record is looked at: the session stays online with its drive
  pub look_online : before.session ≡ Online drive Both reel → TroubledServeStep trouble holders before (Read label_bytes) reply after
      → IsRecordShown reply × ((reel : PlainReel) × IsOnlineWith after.session reel)
  look_online was step =
      let c = called trouble before (Read label_bytes) reply after drive reel was (grind arith) in
      ((grind (arith, passed_few)), (plain_reel c.now reel.capacity, (drive, c.left.session)))

  pub rewind_first : before.session ≡ Online drive Both reel → TroubledServeStep trouble holders before (Op MTREW 1) reply after → StandsFirst reply after
  rewind_first was step =
      let c = called trouble before (Op MTREW 1) reply after drive reel was (grind arith) in
      grind arith
