-- What came to a client that waits for a reply.
use Rattle.dump_client.proofs.Attempt.{◌≡◌, ℕ, ◌+◌, ◌-◌, ◌<◌, ◌≤◌, ◌↔◌, Bool, true, false, not, nat_lt, min, List, [], ◌∷◌, ◌++◌, length, take, drop, Option, Some, None, Result, Ok, Err, refl, sym, ap, subst, ◌∙◌, arith, append_assoc, rules, nat_tests, take-add, Wanted, READER_LIMIT, ReplyParsesAs}
use Rattle.dump_client.proofs.Attempt.{ReplyHasNoSpelling, ReplyHeld, ReplyUnread, reply_taken_of, plain_reply_result, ReplyIsNext, ReplyStaysFaulty, IsReaderWaiting, IsReplyHeard, IsFeedResult, is_more, Done, Data, Error, WireFault, PlainRun, VolumeCount}
use Rattle.std.specs.Result.{IsErrAnd}
use Rattle.std.proofs.lemmas.List.{take-append-drop, length-drop, length-take}
use Rattle.rmt_wire.specs.Reply.Wanted.{Number, DataUpTo}
use Rattle.rmt_wire.specs.Lent.{plain_reply}
use Rattle.rmt_wire.specs.ReplyFront.{kept_of}
use Rattle.rmt_wire.specs.declared.reply.Reply.{Reply}
use Rattle.dump_client.specs.declared.listen.HeardReply.{HeardReply}
use Rattle.dump_client.specs.declared.listen.FeedResult.TheVariants as feed_result

-- the bytes so far and a piece of the rest
piece_then : (bytes text part : List ℕ) (at count : ℕ) → part ≡ drop at text → (bytes ++ take at text) ++ take count part ≡ bytes ++ take (at + count) text
piece_then bytes text part at count same = rw (same, append_assoc, ← take-add at count text) refl

-- more bytes follow a reply if some are unread, or if not, when the piece goes on
some_more : (rest later : List ℕ) → (rest ≡ [] → ⊥) → is_more (rest ++ later) ≡ true
some_more [] later h = absurd (h refl)
some_more (b ∷ rest) later h = refl

rest_goes_on : (text : List ℕ) (at : ℕ) → nat_lt at (length text) ≡ is_more (drop at text)
rest_goes_on text at = grind (arith, nat_tests, length-drop at text)

-- a reader that waits takes some of a piece that is not at its end
pub takes : (h : ReplyHeld) (text : List ℕ) (at count : ℕ) → ((wanted : Wanted) × (bytes : List ℕ) × IsReaderWaiting wanted h bytes)
    → ((wanted : Option Wanted) (bytes : List ℕ) → ReplyUnread h wanted bytes
    → count ≡ min (length (take (length text - at) (drop at text))) (READER_LIMIT - reply_taken_of wanted bytes)) → at < length text
    → (0 < count) × (at + count ≤ length text)
takes h text at count (wanted, bytes, w) counted some =
    let room : reply_taken_of (Some wanted) bytes < READER_LIMIT = subst (λ l. length l < READER_LIMIT) w.unread.keeps w.room in
    let e = counted (Some wanted) bytes w.unread in
    let slice = length-take (length text - at) (drop at text) in
    let rest = length-drop at text in
    (omega arith, omega arith)

module _ (run : PlainRun) (counts : List VolumeCount) (wanted : Wanted) where
  -- one call of `next`, by what it answered
  pub next_none : (old new : ReplyHeld) (result : Result (Option Reply) WireFault) → ReplyIsNext old (plain_reply_result result) new → result ≡ Ok None
      → (bytes : List ℕ) → ReplyUnread old (Some wanted) bytes → IsReaderWaiting wanted new bytes
  next_none old new result n e bytes u =
      let m = rw e at n in
      let w = m.continues (Some wanted) bytes u in
      let held : ReplyUnread new (Some wanted) bytes = rw w.2.2 at w.1 in
      record { unread = held; begun = (w.2.0, w.2.1, refl); room = rw held.keeps (m.room (Some wanted) bytes held) }

  pub next_some : (old new : ReplyHeld) (result : Result (Option Reply) WireFault) (reply : Reply) → ReplyIsNext old (plain_reply_result result) new
      → result ≡ Ok (Some reply) → (bytes : List ℕ) → ReplyUnread old (Some wanted) bytes
      → (rest : List ℕ) × ReplyUnread new None rest × ReplyParsesAs (Some wanted) bytes (Ok (Some (plain_reply reply))) rest
  next_some old new result reply n e bytes u = (rw e at n).continues (Some wanted) bytes u

  pub next_fault : (old new : ReplyHeld) (fault : WireFault) (result : Result (Option HeardReply) WireFault) → ReplyStaysFaulty old (Err fault)
      → IsErrAnd result (λ e. e ≡ fault) → (bytes : List ℕ) → ReplyUnread old (Some wanted) bytes
      → IsReplyHeard run counts wanted bytes result new
  next_fault old new fault (Ok answer) stays is bytes u = absurd is
  next_fault old new fault (Err e) stays is bytes u = λ more. rw is (stays (Some wanted) bytes more u)

  -- what is heard of the bytes so far, with a piece of the rest
  module _ (bytes text part : List ℕ) (at count : ℕ) (same : part ≡ drop at text) (result : Result (Option HeardReply) WireFault) (new : ReplyHeld)
      (heard : IsReplyHeard run counts wanted ((bytes ++ take at text) ++ take count part) result new) where
    so_far : IsReplyHeard run counts wanted (bytes ++ take (at + count) text) result new
    so_far = rw (piece_then bytes text part at count same) at heard

    piece_all : (bytes ++ take (at + count) text) ++ drop (at + count) text ≡ bytes ++ text
    piece_all = append_assoc bytes (take (at + count) text) (drop (at + count) text) ∙ ap (λ l. bytes ++ l) (take-append-drop (at + count) text)

    -- none yet
    pub none_yet : result ≡ Ok None → IsReaderWaiting wanted new (bytes ++ take (at + count) text)
    none_yet e = rw e at so_far

    -- a reply comes: bytes after it are unread, or all of the bytes that were pushed are given
    pub reply_comes : (s : HeardReply) (empty : Bool) → result ≡ Ok (Some s) → ((rest : List ℕ) → ReplyUnread new None rest → (empty ≡ true) ↔ (rest ≡ []))
        → (empty ≡ false → IsFeedResult run counts wanted (bytes ++ text) (feed_result.Reply s (not empty)) new)
        × (empty ≡ true → IsFeedResult run counts wanted (bytes ++ text) (feed_result.Reply s (nat_lt (at + count) (length text))) new)
    reply_comes s empty e seen =
        let w = rw e at so_far in
        let later = drop (at + count) text in
        let whole : bytes ++ text ≡ w.2.0 ++ (w.1 ++ later) = sym piece_all ∙ ap (λ l. l ++ later) w.2.2 ∙ append_assoc w.2.0 w.1 later in (
          λ some. (
            w.0,
            w.1 ++ later,
            (w.2.0, w.2.1, whole),
            w.3,
            ap not some ∙ sym (some_more w.1 later (λ none. (let full = (seen w.1 w.4).1 none in cc))),
            λ none. grind arith,
          ),
          λ full. (let given : w.1 ≡ [] = (seen w.1 w.4).0 full in (
            w.0,
            w.1 ++ later,
            (w.2.0, w.2.1, whole),
            w.3,
            rest_goes_on text (at + count) ∙ ap (λ l. is_more (l ++ later)) (sym given),
            λ last. rw given at w.4,
          )),
        )

    -- a fault of the bytes so far is one of all of them
    pub noise : (fault : WireFault) → result ≡ Err fault → IsFeedResult run counts wanted (bytes ++ text) feed_result.Noise new
    noise fault e = (fault, rw piece_all at ((rw e at so_far) (drop (at + count) text)))

-- where nothing came yet
kept_none : kept_of [] ≡ []
unfolding kept_of
kept_none = refl

no_reply_in_nothing : (wanted : Wanted) → ReplyHasNoSpelling wanted []
no_reply_in_nothing Number text rest (Done n) e s = let is = s.2 in absurd cc
no_reply_in_nothing (DataUpTo most) text rest (Data bytes) e s = let is = s.3 in absurd cc
no_reply_in_nothing wanted text rest (Error n words) e s = let is = s.5 in absurd cc
no_reply_in_nothing wanted text rest reply e s = absurd s

-- a reader of which a reply is asked anew waits
pub waiting_anew : (wanted : Wanted) (h : ReplyHeld) → ReplyUnread h (Some wanted) [] → IsReaderWaiting wanted h []
waiting_anew wanted h u = record {
  unread = u;
  begun = ((69 ∷ 48 ∷ 10 ∷ 10 ∷ [], Error 0 [], (48 ∷ [], [], search rules, tt, refl, refl)), no_reply_in_nothing wanted, refl);
  room = let none : length h.kept ≡ 0 = ap (length {A = ℕ}) (u.keeps ∙ kept_none) in omega arith;
}
