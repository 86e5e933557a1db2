-- What comes to a caller that waits for a reply.
use Rattle.std.proofs.lemmas.List.{nil_from_length}
use Rattle.remote_tape.proofs.Words.{◌≡◌, ◌≢◌, inl, inr, map, ℕ, List, [], ◌∷◌, ◌++◌, length, Some, None, Ok, Err, refl, sym, ap, subst, ◌∙◌, arith, append_assoc, append-nil, rules, PlainReply, Wanted, SpellsReply, Done, Data, Number, DataUpTo, ReplyHeld, ReplyUnread, IsPeeked, IsReplyAwaited, IsEnough, Brings, Botched, Given, Reply, WireFault, plain_reply}
use Rattle.rmt_wire.specs.Number.{SpellsNumber}
use Rattle.rmt_wire.specs.ReplyFront.{kept_of}

module _ (wanted : Wanted) (bytes : List ℕ) (h : ReplyHeld) where
  -- only a beginning of a reply is seen
  pub awaits_more : IsPeeked h (Ok None) → ReplyUnread h (Some wanted) bytes → IsReplyAwaited wanted h bytes
  awaits_more seen u =
      let w = seen.next.continues (Some wanted) bytes u in
      let held = rw w.2.2 at w.1 in
      record { unread = u; begun = (w.2.0, w.2.1, refl); room = rw u.keeps (seen.next.room (Some wanted) bytes held) }

  -- a reply is seen
  pub enough_some : (found : Reply × ℕ) → IsPeeked h (Ok (Some found)) → ReplyUnread h (Some wanted) bytes → IsEnough wanted bytes
  enough_some found seen u = λ begun. let w = seen.next.continues (Some wanted) bytes u in begun.1 w.2.0 w.0 _ w.2.2 w.2.1

  -- a fault is seen
  pub enough_fault : (fault : WireFault) → IsPeeked h (Err fault) → ReplyUnread h (Some wanted) bytes → IsEnough wanted bytes
  enough_fault fault seen u = λ begun.
      let w = (seen.next.continues (Some wanted) bytes u).2.0 in
      let more = begun.0.0 in
      let same : bytes ++ more ≡ (w.seen ++ w.byte ∷ []) ++ (w.later ++ more) =
      ap (λ b. b ++ more) w.split ∙ append_assoc w.seen (w.byte ∷ w.later) more ∙ sym (append_assoc w.seen (w.byte ∷ []) (w.later ++ more)) in
      w.hopeless (w.later ++ more, begun.0.1, subst (λ b. SpellsReply b begun.0.1 wanted) same begun.0.2)

  -- a reply is seen, and nothing follows it
  pub brings_reply : (reply : Reply) → IsPeeked h (Ok (Some (reply, 0))) → ReplyUnread h (Some wanted) bytes → Brings wanted (Ok (plain_reply reply)) (map Given bytes)
  brings_reply reply seen u =
      let w = seen.next.continues (Some wanted) bytes u in
      let none : w.0 ≡ [] = nil_from_length w.0 (sym (seen.left ∙ ap (length {A = ℕ}) w.1.keeps)) in
      let alone : bytes ≡ w.2.0 = w.2.2 ∙ ap (λ r. w.2.0 ++ r) none ∙ append-nil w.2.0 in
      (bytes, subst (λ b. SpellsReply b (plain_reply reply) wanted) (sym alone) w.2.1, refl)

  -- a reply is seen, and more follows it
  pub more_follows : (reply : Reply) (left : ℕ) → left ≢ 0 → IsPeeked h (Ok (Some (reply, left))) → ReplyUnread h (Some wanted) bytes → Brings wanted (Err Botched) (map Given bytes)
  more_follows reply left some seen u =
      let w = seen.next.continues (Some wanted) bytes u in
      (bytes, inr (inl (plain_reply reply, w.0, w.2, λ none. some (seen.left ∙ ap (length {A = ℕ}) (w.1.keeps ∙ none)))), refl)

  -- a fault is seen
  pub brings_fault : (fault : WireFault) → IsPeeked h (Err fault) → ReplyUnread h (Some wanted) bytes → Brings wanted (Err Botched) (map Given bytes)
  brings_fault fault seen u =
      let w = seen.next.continues (Some wanted) bytes u in
      (bytes, inl (fault, (w.2.0, w.2.1, refl)), refl)

-- where nothing came yet
kept_none : kept_of [] ≡ []
unfolding kept_of
kept_none = refl

zero_digit : SpellsNumber (48 ∷ []) 0
zero_digit = search rules

-- what could come
some_reply : (wanted : Wanted) → (more : List ℕ) × (reply : PlainReply) × SpellsReply more reply wanted
some_reply Number = (65 ∷ 48 ∷ 10 ∷ [], Done 0, (48 ∷ [], zero_digit, refl))
some_reply (DataUpTo most) = (65 ∷ 48 ∷ 10 ∷ [], Data [], (48 ∷ [], zero_digit, omega arith, refl))

pub waiting_anew : (wanted : Wanted) (h : ReplyHeld) → ReplyUnread h (Some wanted) [] → IsReplyAwaited wanted h []
waiting_anew wanted h u = record {
  unread = u;
  begun = (some_reply wanted, λ text rest reply e s. grind arith, refl);
  room = let none : length h.kept ≡ 0 = ap (length {A = ℕ}) (u.keeps ∙ kept_none) in omega arith;
}
