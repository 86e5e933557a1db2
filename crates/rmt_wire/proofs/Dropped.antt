-- Dropped writes at the front, and what a reader holds there.
use Rattle.rmt_wire.proofs.Words.{List, None, Ok, Option, Some, [], ap, append_assoc, arith, drop, length, length-append, length-drop, refl, subst, sym, take, take-append-drop, ℕ, ◌++◌, ◌+◌, ◌-◌, ◌<◌, ◌∙◌, ◌∷◌, ◌≡◌, ◌≤◌, drop-append-le, drop-drop, drop_at, length-take-le, take-append-le, take_at, line_feed, WriteDropped, ParsesAs, front_of, taken_of, RequestHeld, held, IsDropped, UnreadAt, Unread, discardable_at, dropped_line, READER_LIMIT}
use Rattle.rmt_wire.proofs.Align.{no_cons}
use Rattle.rmt_wire.proofs.Numbers.{behind}
use Rattle.rmt_wire.proofs.Requests.{write_less}
use Rattle.rmt_wire.proofs.Giving.{gives, room}
use Rattle.rmt_wire.proofs.WriteLines.{line_stays, line_pushed, dropped_found, line_split}

-- an option with its equation
pub at_option : {A : Type 0} (o : Option A) (P : Type 0) → (o ≡ None → P) → ((a : A) → o ≡ Some a → P) → P
at_option None P p q = p refl
at_option (Some a) P p q = q a refl

-- what is unread, by the line of the dropped write that is found
unread_at : (o : Option (ℕ × ℕ)) (kept : List ℕ) (dropped : ℕ) (bytes : List ℕ) → dropped_line kept ≡ o → Unread (held kept dropped) bytes
    → UnreadAt o (held kept dropped) bytes
unread_at o kept dropped bytes e u = subst (λ o. UnreadAt o (held kept dropped) bytes) e u

at_unread : (o : Option (ℕ × ℕ)) (kept : List ℕ) (dropped : ℕ) (bytes : List ℕ) → dropped_line kept ≡ o → UnreadAt o (held kept dropped) bytes
    → Unread (held kept dropped) bytes
at_unread o kept dropped bytes e u = subst (λ o. UnreadAt o (held kept dropped) bytes) (sym e) u

-- with nothing let go, what is kept is what was pushed
pub unread_whole : (kept : List ℕ) → Unread (held kept 0) kept
unread_whole kept =
    at_option (dropped_line kept) (Unread (held kept 0) kept) (λ e. at_unread None kept 0 kept e (refl, refl))
    (λ line e. at_unread (Some line) kept 0 kept e ([], refl, omega arith, sym (take-append-drop line.0 kept)))

-- what is pushed takes the room that is kept, but for the data that can go
pub taken_kept : (kept : List ℕ) (dropped : ℕ) (bytes : List ℕ) → Unread (held kept dropped) bytes
    → taken_of bytes + discardable_at (dropped_line kept) (length kept) dropped ≡ length kept
taken_kept kept dropped bytes u =
    at_option (dropped_line kept) (taken_of bytes + discardable_at (dropped_line kept) (length kept) dropped ≡ length kept)
    (λ e. rw ((unread_at None kept dropped bytes e u).1, e) (omega arith))
    (λ line e.
    let b = unread_at (Some line) kept dropped bytes e u in
    let s = line_split kept line (dropped_found kept line e) in
    let there : dropped_line bytes ≡ Some line = ap dropped_line b.3 ∙ line_stays kept line e (b.0 ++ drop line.0 kept) in
    rw (there, e) (omega (arith, ap (length {A = ℕ}) b.3, length-append {A = ℕ}, length-take-le line.0 kept s.2, length-drop line.0 kept, b.1, b.2)))

-- data that can go, and more of them
data_split : (discardable kept : List ℕ) (len more : ℕ) → discardable ++ drop len kept ≡ (discardable ++ take more (drop len kept)) ++ drop (len + more) kept
data_split discardable kept len more = rw (append_assoc, ← drop-drop more len kept, take-append-drop more (drop len kept)) refl

-- letting data go changes nothing of what was pushed
pub let_go_unread : (kept : List ℕ) (dropped more : ℕ) (line : ℕ × ℕ) (bytes : List ℕ) → dropped_line kept ≡ Some line → more ≤ length kept - line.0
    → dropped + more ≤ line.1
    → Unread (held kept dropped) bytes → Unread (held (take line.0 kept ++ drop (line.0 + more) kept) (dropped + more)) bytes
let_go_unread kept dropped more line bytes e room within u =
    let b = unread_at (Some line) kept dropped bytes e u in
    let s = line_split kept line (dropped_found kept line e) in
    let front = length-take-le line.0 kept s.2 in
    let back = length-drop line.0 kept in
    let new_front = take_at (take line.0 kept) (drop (line.0 + more) kept) line.0 front in
    let new_back = drop_at (take line.0 kept) (drop (line.0 + more) kept) line.0 front in
    at_unread (Some line) _ (dropped + more) bytes (line_stays kept line e (drop (line.0 + more) kept)) (
      b.0 ++ take more (drop line.0 kept),
      omega (arith, length-append b.0 (take more (drop line.0 kept)), b.1, length-take-le more (drop line.0 kept) (omega arith)),
      within,
      rw (new_front, new_back) (b.3 ∙ ap (λ l. take line.0 kept ++ l) (data_split b.0 kept line.0 more)),
    )

-- what is pushed stands after what was pushed before
pub push_unread : (kept piece : List ℕ) (dropped : ℕ) (bytes : List ℕ) → Unread (held kept dropped) bytes
    → Unread (held (kept ++ piece) dropped) (bytes ++ piece)
push_unread kept piece dropped bytes u =
    at_option (dropped_line kept) (Unread (held (kept ++ piece) dropped) (bytes ++ piece))
    (λ e.
    let n = unread_at None kept dropped bytes e u in
    subst (λ d. Unread (held (kept ++ piece) d) (bytes ++ piece)) (sym n.0)
    (subst (λ b. Unread (held (kept ++ piece) 0) (b ++ piece)) (sym n.1) (unread_whole (kept ++ piece))))
    (λ line e.
    let b = unread_at (Some line) kept dropped bytes e u in
    let s = line_split kept line (dropped_found kept line e) in
    at_unread (Some line) (kept ++ piece) dropped (bytes ++ piece) (line_pushed kept piece line e) (
      b.0,
      b.1,
      b.2,
      rw (drop-append-le line.0 kept piece s.2, take-append-le line.0 kept piece s.2) (ap (λ l. l ++ piece) b.3 ∙ simp append_assoc),
    ))

pub within_some : (o : Option (ℕ × ℕ)) (line : ℕ × ℕ) (n : ℕ) → o ≡ Some line → IsDropped o n → n ≤ line.1
within_some o line n e h = subst (λ o. IsDropped o n) e h

none_dropped : (o : Option (ℕ × ℕ)) → IsDropped o 0
none_dropped o = grind arith

pub push_dropped : (kept piece : List ℕ) (n : ℕ) → IsDropped (dropped_line kept) n → IsDropped (dropped_line (kept ++ piece)) n
push_dropped kept piece n h =
    at_option (dropped_line kept) (IsDropped (dropped_line (kept ++ piece)) n)
    (λ e. subst (IsDropped (dropped_line (kept ++ piece))) (sym (subst (λ o. IsDropped o n) e h)) (none_dropped (dropped_line (kept ++ piece))))
    (λ line e. rw (line_pushed kept piece line e) (rw e at h))

-- nothing is kept exactly where nothing is unread
pub empty_unread : (h : RequestHeld) (bytes : List ℕ) → Unread h bytes → (h.kept ≡ [] → bytes ≡ []) × (bytes ≡ [] → h.kept ≡ [])
empty_unread h bytes u =
    at_option (dropped_line h.kept) ((h.kept ≡ [] → bytes ≡ []) × (bytes ≡ [] → h.kept ≡ []))
    (λ e. let n = unread_at None h.kept h.dropped bytes e u in (λ k. n.1 ∙ k, λ b. sym n.1 ∙ b))
    (λ line e.
    let b = unread_at (Some line) h.kept h.dropped bytes e u in
    let d = dropped_found h.kept line e in
    let s = line_split h.kept line d in
    (λ k. absurd (no_cons _ _ (sym d.split ∙ k)), λ z. absurd (no_cons _ _ (sym (b.3 ∙ s.1 (b.0 ++ drop line.0 h.kept)) ∙ z))))

-- a dropped write is given once all of its data were pushed
pub whole_given : (kept : List ℕ) (dropped : ℕ) (line : ℕ × ℕ) (bytes : List ℕ) → dropped_line kept ≡ Some line → line.1 ≤ dropped + (length kept - line.0)
    → Unread (held kept dropped) bytes → ParsesAs bytes (Ok (Some (WriteDropped line.1))) (drop (line.0 + (line.1 - dropped)) kept)
whole_given kept dropped line bytes e enough u =
    let b = unread_at (Some line) kept dropped bytes e u in
    let d = dropped_found kept line e in
    let more : ℕ = line.1 - dropped in
    let gone : List ℕ = b.0 ++ take more (drop line.0 kept) in
    let back = length-drop line.0 kept in
    let size : length gone ≡ line.1 = omega (arith, length-append {A = ℕ}, length-take-le more (drop line.0 kept) (omega arith), b.1, b.2) in (
      87 ∷ (d.number ++ line_feed ∷ gone),
      (d.number, gone, d.spelled, d.large, size, refl),
      b.3 ∙ (line_split kept line d).1 (b.0 ++ drop line.0 kept) ∙ ap (λ l. 87 ∷ (d.number ++ line_feed ∷ l)) (data_split b.0 kept line.0 more)
          ∙ behind 87 d.number gone (drop (line.0 + more) kept),
    )

less_seen : (kept : List ℕ) (dropped : ℕ) (line : ℕ × ℕ) (bytes : List ℕ) → dropped_line kept ≡ Some line → dropped + (length kept - line.0) < line.1
    → Unread (held kept dropped) bytes → front_of bytes ≡ Ok None
less_seen kept dropped line bytes e less u =
    let b = unread_at (Some line) kept dropped bytes e u in
    let d = dropped_found kept line e in
    ap front_of (b.3 ∙ (line_split kept line d).1 (b.0 ++ drop line.0 kept)) ∙ write_less d.number (b.0 ++ drop line.0 kept) line.1 d.spelled
    (omega (arith, length-append b.0 (drop line.0 kept), length-drop line.0 kept, b.1))

-- until then none is
pub less_given : (kept : List ℕ) (dropped : ℕ) (line : ℕ × ℕ) (bytes : List ℕ) → dropped_line kept ≡ Some line → dropped + (length kept - line.0) < line.1
    → Unread (held kept dropped) bytes → ParsesAs bytes (Ok None) bytes × (taken_of bytes < READER_LIMIT)
less_given kept dropped line bytes e less u =
    let n = less_seen kept dropped line bytes e less u in
    (gives bytes (Ok None) n, room bytes n)

-- with no dropped write at the front, the bytes kept are those that were pushed
pub plain_unread : (kept : List ℕ) (dropped : ℕ) (bytes : List ℕ) → dropped_line kept ≡ None → Unread (held kept dropped) bytes → bytes ≡ kept
plain_unread kept dropped bytes e u = (unread_at None kept dropped bytes e u).1
