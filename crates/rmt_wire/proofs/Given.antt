-- The requests that a reader has given of all that was pushed to it, and what it holds once more bytes came.
use Rattle.rmt_wire.proofs.Words.{zero-add, Err, List, None, Ok, Option, Result, Some, [], ap, append-nil, append_assoc, arith, drop, length, refl, subst, sym, take, ℕ, ⊎_elim, ◌++◌, ◌+◌, ◌<◌, ◌∙◌, ◌∷◌, ◌≡◌, Appends-trans, cases_lt, flat_map-append, nil_from_length, Appends, Consumes, Keeps, flat_map, PlainRequest, Spelled, taken_of, RequestHeld, held, IsDropped, Unread, IsNext, IsGiven, Continues, LeavesRoom, Shrinks, StaysUnlessGiven, KeepsGiving, dropped_line, IsKnown, HasDiscarded, idle, HasRoom, IsFilled, AppendsBeginning, WireFault, READER_LIMIT}
use Rattle.rmt_wire.proofs.Spelling.{beginning_past_first}
use Rattle.rmt_wire.proofs.WriteLines.{known_pushed}
use Rattle.rmt_wire.proofs.Dropped.{taken_kept, push_unread, push_dropped}

-- more bytes change no whole request
pub spelled_more : (bytes rest more : List ℕ) (requests : List PlainRequest) → Spelled bytes requests rest → Spelled (bytes ++ more) requests (rest ++ more)
spelled_more bytes rest more [] s = ap (λ b. b ++ more) s
spelled_more bytes rest more (r ∷ requests) s =
    (s.0, s.1 ++ more, s.2, ap (λ b. b ++ more) s.3 ∙ append_assoc s.0 s.1 more, spelled_more s.1 rest more requests s.4)

-- what is spelled in the rest is spelled after it
pub spelled_then : (bytes rest later : List ℕ) (requests others : List PlainRequest) → Spelled bytes requests rest → Spelled rest others later
    → Spelled bytes (requests ++ others) later
spelled_then bytes rest later [] others s t = subst (λ b. Spelled b others later) (sym s) t
spelled_then bytes rest later (r ∷ requests) others s t = (s.0, s.1, s.2, s.3, spelled_then s.1 rest later requests others s.4 t)

-- the answers to the requests given so far were written, and then one more, or a beginning of it
module _ (answer : PlainRequest → List ℕ) (known now after : Option (List ℕ)) (requests : List PlainRequest) (request : PlainRequest)
    (a : Appends known now (flat_map answer requests)) where
  one_more : flat_map answer requests ++ answer request ≡ flat_map answer (requests ++ request ∷ [])
  one_more = sym (flat_map-append answer requests (request ∷ []) ∙ ap (λ t. flat_map answer requests ++ t) (append-nil (answer request)))

  pub answered : Appends now after (answer request) → Appends known after (flat_map answer (requests ++ request ∷ []))
  answered w = subst (Appends known after) one_more (Appends-trans known now after _ _ a w)

  pub answer_begun : AppendsBeginning now after (answer request) → AppendsBeginning known after (flat_map answer (requests ++ request ∷ []))
  answer_begun w = subst (AppendsBeginning known after) one_more (beginning_past_first known now after _ _ a w)

-- a reader that goes on in what is unread gives on
gives_on : (old new : RequestHeld) (answer : Result (Option PlainRequest) WireFault) → Continues old answer new → KeepsGiving old answer new
gives_on old new (Ok (Some request)) c = λ pushed requests g.
    let w = c g.0 g.1 in
    (w.0, w.1, spelled_then pushed g.0 w.0 requests (request ∷ []) g.2 (w.2.0, w.0, w.2.1, w.2.2, refl))
gives_on old new (Ok None) c = λ pushed requests g. (let w = c g.0 g.1 in (g.0, subst (Unread new) w.2.2 w.1, g.2, w.2.0, w.2.1))
gives_on old new (Err fault) c = λ pushed requests g. (let w = c g.0 g.1 in (g.0, subst (Unread new) w.2.2 w.1, g.2, w.2.0, w.2.1))

pub is_next : (old : RequestHeld) (answer : Result (Option PlainRequest) WireFault) (new : RequestHeld) → Continues old answer new → LeavesRoom answer new
    → Shrinks old answer new
    → StaysUnlessGiven old answer new → IsNext old answer new
is_next old answer new continues room shrinks unchanged =
    record { continues = continues; room = room; shrinks = shrinks; unchanged = unchanged; gives_on = gives_on old new answer continues }

-- what came stands after what was kept, and the data that could go are gone
module _ (kept piece items : List ℕ) (dropped : ℕ) (is : items ≡ kept ++ piece) where
  pub more_dropped : IsDropped (dropped_line kept) dropped → IsDropped (dropped_line items) dropped
  more_dropped h = subst (λ l. IsDropped (dropped_line l) dropped) (sym is) (push_dropped kept piece dropped h)

  pub more_known : (known : Option (ℕ × ℕ)) → IsKnown known kept → IsKnown known items
  more_known known k = subst (IsKnown known) (sym is) (known_pushed known kept piece k)

  module _ (new : RequestHeld) (discardable : HasDiscarded (held items dropped) new) where
    pub more_unread : (bytes : List ℕ) → Unread (held kept dropped) bytes → Unread new (bytes ++ piece)
    more_unread bytes u = discardable.unread (bytes ++ piece)
        (subst (λ l. Unread (held l dropped) (bytes ++ piece)) (sym is) (push_unread kept piece dropped bytes u))

    pub more_given : (pushed : List ℕ) (requests : List PlainRequest) → IsGiven (held kept dropped) pushed requests → IsGiven new (pushed ++ piece) requests
    more_given pushed requests g = (g.0 ++ piece, more_unread g.0 g.1, spelled_more pushed g.0 piece requests g.2)

    pub filled : (left left' : Option (List ℕ)) (old : RequestHeld) (count : ℕ) → held kept dropped ≡ old → length piece ≡ count → Consumes left left' piece
        → IsFilled left left' old new count
    filled left left' old count same long consumed =
        subst (λ h. IsFilled left left' h new count) same (record { came = piece; long = long; consumed = consumed; unread = more_unread; given = more_given })

-- what came stands after what is kept at the front
pub at_front : (old moved came items : List ℕ) (start : ℕ) → moved ≡ take 0 old ++ drop (0 + start) old → items ≡ moved ++ came → items ≡ drop start old ++ came
at_front old moved came items start m is = rw zero-add at (rw m at is)

-- nothing was read
pub nothing_came : (left left' : Option (List ℕ)) (came : List ℕ) → length came ≡ 0 → Consumes left left' came → Keeps left left'
nothing_came left left' came e p = grind (arith, nil_from_length came e)

-- where none came, the bytes kept are those that were
pub none_more : (kept came items : List ℕ) → length came ≡ 0 → items ≡ kept ++ came → items ≡ kept
none_more kept came items e is = is ∙ ap (λ l. kept ++ l) (nil_from_length came e) ∙ append-nil kept

pub filled_with_none : (left left' : Option (List ℕ)) (old new : RequestHeld) (came : List ℕ) (count : ℕ) → new ≡ old → count ≡ 0 → length came ≡ count
    → Consumes left left' came
    → IsFilled left left' old new count
filled_with_none left left' old new came count same z long consumed =
    let none : came ≡ [] = nil_from_length came (long ∙ z) in
    rw same (record {
      came = came;
      long = long;
      consumed = consumed;
      unread = λ bytes u. rw (none, append-nil) u;
      given = λ pushed requests g. rw (none, append-nil) g;
    })

-- with data that can be let go there is room, and without them there is as much as the bytes unread leave
pub room_left : (kept : List ℕ) (dropped : ℕ) (bytes : List ℕ) → HasRoom (held kept dropped) → Unread (held kept dropped) bytes → taken_of bytes < READER_LIMIT
    → length kept < READER_LIMIT
room_left kept dropped bytes h u less =
    ⊎_elim (λ (some : 0 < idle (held kept dropped)). h some) (λ none. omega (arith, taken_kept kept dropped bytes u)) (cases_lt 0 (idle (held kept dropped)))
