-- One call of a reader's `next`.
use Rattle.rmt_wire.proofs.Words.{Err, List, None, Ok, Option, Result, Some, [], ap, arith, drop, eqb, length, length-append, length-drop, min, refl, subst, sym, take, true, ℕ, ◌++◌, ◌+◌, ◌-◌, ◌<◌, ◌∙◌, ◌≡◌, ◌≤◌, nat_tests, drop-append-le, drop-drop, drop-take, length-take-le, nil_from_length, take_all, Parsed, PlainRequest, WriteDropped, front_of, taken_of, RequestHeld, held, IsDropped, Unread, discardable_at, IsNext, StaysFaulty, plain_front_result, held_after, dropped_line, HasDiscarded, plain_request, lent_front, WireFault, READER_LIMIT, Request}
use Rattle.rmt_wire.proofs.Giving.{gives, room, always_faulty, given_shrinks}
use Rattle.rmt_wire.proofs.WriteLines.{line_stays, dropped_found, line_split}
use Rattle.rmt_wire.proofs.Dropped.{unread_whole, taken_kept, let_go_unread, empty_unread, whole_given, less_given, plain_unread}
use Rattle.rmt_wire.proofs.Given.{is_next}

-- with no dropped write at the front, what is seen of the bytes kept is given
module _ (kept : List ℕ) (dropped : ℕ) (none : dropped_line kept ≡ None) where
  front_kept : (seen : Parsed (PlainRequest × ℕ)) → seen ≡ front_of kept → (bytes : List ℕ) → Unread (held kept dropped) bytes → front_of bytes ≡ seen
  front_kept seen e bytes u = ap front_of (plain_unread kept dropped bytes none u) ∙ sym e

  pub plain_next : (found : Result (Option (Request × ℕ)) WireFault) → lent_front found ≡ front_of kept
      → IsNext (held kept dropped) (plain_front_result found) (held_after found (held kept dropped))
  plain_next (Ok None) e = is_next _ _ _ (λ bytes u. (bytes, u, gives bytes (Ok None) (front_kept (Ok None) e bytes u)))
      (λ bytes u. room bytes (front_kept (Ok None) e bytes u)) tt refl
  plain_next (Ok (Some f)) e =
      let seen : Parsed (PlainRequest × ℕ) = Ok (Some (plain_request f.0, f.1)) in
      let rest : List ℕ = drop f.1 kept in
      let g = gives kept seen (sym e) in
      is_next _ _ _ (λ bytes u. (rest, unread_whole rest, rw (plain_unread kept dropped bytes none u) g)) tt
      (given_shrinks kept rest (plain_request f.0) g) tt
  plain_next (Err fault) e = is_next _ _ _ (λ bytes u. (bytes, u, gives bytes (Err fault) (front_kept (Err fault) e bytes u))) tt tt refl

  pub plain_faulty : (found : Result (Option (Request × ℕ)) WireFault) → lent_front found ≡ front_of kept
      → StaysFaulty (held kept dropped) (plain_front_result found)
  plain_faulty (Err fault) e = λ bytes more u. gives (bytes ++ more) (Err fault) (always_faulty bytes fault more (front_kept (Err fault) e bytes u))
  plain_faulty (Ok None) e = tt
  plain_faulty (Ok (Some f)) e = tt

-- at a dropped write
pub whole_next : (kept : List ℕ) (dropped : ℕ) (line : ℕ × ℕ) → dropped_line kept ≡ Some line → line.1 ≤ dropped + (length kept - line.0) → 0 < line.0
    → line.0 ≤ length kept
    → IsNext (held kept dropped) (Ok (Some (WriteDropped line.1))) (held (drop (line.0 + (line.1 - dropped)) kept) 0)
whole_next kept dropped line e enough some within =
    let rest : List ℕ = drop (line.0 + (line.1 - dropped)) kept in
    is_next _ _ _ (λ bytes u. (rest, unread_whole rest, whole_given kept dropped line bytes e enough u)) tt
    (omega (arith, length-drop (line.0 + (line.1 - dropped)) kept)) tt

pub less_next : (kept : List ℕ) (dropped : ℕ) (line : ℕ × ℕ) → dropped_line kept ≡ Some line → dropped + (length kept - line.0) < line.1
    → IsNext (held kept dropped) (Ok None) (held kept dropped)
less_next kept dropped line e less =
    is_next _ _ _ (λ bytes u. (bytes, u, (less_given kept dropped line bytes e less u).0)) (λ bytes u. (less_given kept dropped line bytes e less u).1) tt refl

-- the length of a dropped write's line
pub line_some : (kept : List ℕ) (line : ℕ × ℕ) → dropped_line kept ≡ Some line → (0 < line.0) × (line.0 ≤ length kept)
line_some kept line e =
    let d = dropped_found kept line e in
    let long = d.long in
    (omega arith, (line_split kept line d).2)

-- bytes that are taken out after a front of what is kept
pub taken_out : (items : List ℕ) (start len count : ℕ) → start + len ≤ length items
    → drop start (take (start + len) items ++ drop (start + len + count) items) ≡ take len (drop start items) ++ drop (len + count) (drop start items)
taken_out items start len count within =
    let size : start ≤ length (take (start + len) items) = omega (arith, length-take-le (start + len) items within) in
    let sum : start + len + count ≡ start + (len + count) = omega arith in
    rw (drop-append-le start (take (start + len) items) _ size, drop-take start len items, sum, drop-drop (len + count) start items) refl

-- nothing is behind the start exactly where it is the end
pub at_end : (items : List ℕ) (start len : ℕ) → len ≡ length items → start ≤ length items
    → (eqb len start ≡ true → drop start items ≡ []) × (drop start items ≡ [] → eqb len start ≡ true)
at_end items start len e within = (
  λ t. nil_from_length (drop start items) (grind (arith, nat_tests, length-drop {A = ℕ})),
  λ z. (let none = ap (length {A = ℕ}) z in grind (arith, nat_tests, length-drop {A = ℕ})),
)

-- the bytes kept are none exactly there
pub empty_at : (items : List ℕ) (start dropped : ℕ) (bytes : List ℕ) (len : ℕ) → len ≡ length items → start ≤ length items
    → Unread (held (drop start items) dropped) bytes
    → (eqb len start ≡ true → bytes ≡ []) × (bytes ≡ [] → eqb len start ≡ true)
empty_at items start dropped bytes len e within u =
    let b = empty_unread (held (drop start items) dropped) bytes u in
    let end = at_end items start len e within in
    (λ t. b.0 (end.0 t), λ z. end.1 (b.1 z))

-- where the start is the end, nothing is held
pub all_given : (items : List ℕ) (start dropped : ℕ) (len : ℕ) → len ≡ length items → start ≤ length items → IsDropped (dropped_line (drop start items)) dropped
    → eqb len start ≡ true → Unread (held (drop start items) dropped) []
unfolding dropped_line
all_given items start dropped len e within at_line t =
    let none = (at_end items start len e within).0 t in
    let none_dropped : dropped ≡ 0 = subst (λ l. IsDropped (dropped_line l) dropped) none at_line in
    subst (λ l. Unread (held l dropped) []) (sym none) (none_dropped, refl)

-- the room is what the bytes pushed do not take
pub room_at : (kept : List ℕ) (dropped discardable : ℕ) (bytes : List ℕ) → length kept ≤ READER_LIMIT
    → discardable ≡ discardable_at (dropped_line kept) (length kept) dropped
    → Unread (held kept dropped) bytes → READER_LIMIT - (length kept - discardable) + taken_of bytes ≡ READER_LIMIT
room_at kept dropped discardable bytes most amount u = omega (arith, taken_kept kept dropped bytes u)

-- all is gone that could go
all_discarded : (old : RequestHeld) (kept : List ℕ) (dropped : ℕ) → IsDropped (dropped_line kept) dropped
    → discardable_at (dropped_line kept) (length kept) dropped ≡ 0
    → ((bytes : List ℕ) → Unread old bytes → Unread (held kept dropped) bytes) → HasDiscarded old (held kept dropped)
all_discarded old kept dropped at_line none unread =
    let taken = λ (bytes : List ℕ) (u : Unread old bytes). taken_kept kept dropped bytes (unread bytes u) in
    record { at_line = at_line; none_idle = none; unread = unread; taken = λ bytes u. omega (arith, taken bytes u, none) }

-- what is kept once the data of a dropped write that can go are taken out after its line
module _ (old items : List ℕ) (start dropped discardable : ℕ) (line : ℕ × ℕ) (within : start ≤ length old) (found : dropped_line (drop start old) ≡ Some line)
    (few : dropped ≤ line.1) (amount : discardable ≡ min (length (drop start old) - line.0) (line.1 - dropped))
    (is : items ≡ take (start + line.0) old ++ drop (start + line.0 + discardable) old) where
  some : (0 < line.0) × (line.0 ≤ length (drop start old))
  some = line_some (drop start old) line found

  -- the line, and what is after the data that are gone
  pub left_behind : drop start items ≡ take line.0 (drop start old) ++ drop (line.0 + discardable) (drop start old)
  left_behind = ap (drop start) is ∙ taken_out old start line.0 discardable (let size = length-drop start old in omega (arith, some.1))

  new_size : length (drop start items) + discardable ≡ length (drop start old)
  new_size = omega (arith, ap (length {A = ℕ}) left_behind, length-append {A = ℕ}, length-take-le line.0 (drop start old) some.1, length-drop {A = ℕ}, some.1)

  pub has_discarded : HasDiscarded (held (drop start old) dropped) (held (drop start items) (dropped + discardable))
  has_discarded =
      let kept : List ℕ = drop start old in
      let there : dropped_line (drop start items) ≡ Some line = ap dropped_line left_behind ∙ line_stays kept line found (drop (line.0 + discardable) kept) in
      all_discarded (held kept dropped) (drop start items) (dropped + discardable) (subst (λ o. IsDropped o (dropped + discardable)) (sym there) (omega arith))
      (ap (λ o. discardable_at o (length (drop start items)) (dropped + discardable)) there ∙ omega (arith, new_size, some.1))
      (λ bytes u. subst (λ l. Unread (held l (dropped + discardable)) bytes) (sym left_behind)
      (let_go_unread kept dropped discardable line bytes found (omega (arith, some.1)) (omega arith) u))

-- with no dropped write at the front, nothing can be let go
pub none_let_go : (kept : List ℕ) (dropped : ℕ) → dropped_line kept ≡ None → IsDropped (dropped_line kept) dropped
    → HasDiscarded (held kept dropped) (held kept dropped)
none_let_go kept dropped e at_line =
    all_discarded (held kept dropped) kept dropped at_line (ap (λ o. discardable_at o (length kept) dropped) e) (λ bytes u. u)

-- the bytes of a slice from a place on
pub seen_from : (all items : List ℕ) → all ≡ items → (start : ℕ) → take (length all - start) (drop start all) ≡ drop start items
seen_from all items e start = take_all _ _ (omega (arith, length-drop start all)) ∙ ap (drop start) e
