-- The rule is kept as one seat changes with a word.
use Rattle.std.proofs.lemmas.List.{length-replicate, length_push}
use Rattle.std.proofs.lemmas.Bool.Decides.{nat_tests}
use Rattle.std.proofs.lemmas.Option.{none-some, same_Some}
use Rattle.atomic_table.proofs.Lists.{at_set, set_here, set_else, at_longer}
use Rattle.hold_table.proofs.Names.{◌≡◌, ◌≢◌, ◌⊎◌, inl, inr, ⊎_elim, ℕ, ◌+◌, ◌-◌, ◌<◌, ◌≤◌, Bool, true, false, true≢false, cond, eqb, ne_eqb, List, [], ◌∷◌, ◌++◌, length, replicate}
use Rattle.hold_table.proofs.Names.{get_or, set, length-set, get_or-set_at, get_or-set_other, set-get_or, Some, sym, refl, ap, ◌∙◌, subst, arith, dite, ℕ_discrete, some, some-ne-none, get_elem?}
use Rattle.hold_table.proofs.Names.{DRIVE_LIMIT, SEAT_LIMIT, LastStep, StepKind, has, last_step, newcomer, moved, Seated, seated, HoldRule, nobody, settled, following, stepped, IsNumbered, WasHeld, IsTableKept, FindsAs, FoundHolder}
use Rattle.hold_table.proofs.Lists.{reads, there, at_snoc_where, all_one}

module _ {drives : ℕ} {words : List ℕ} {seats : List Seated} (r : IsTableKept drives words seats) where
  -- a word is that of a seat exactly where the seat holds the drive
  pub finds_as : (k : ℕ) (x : Seated) (d : ℕ) → get_elem? seats k ≡ some x → FindsAs (get_or words d 0) d x
  finds_as k x d at = let is = r.held k x d at in ((λ same. grind (arith, nat_tests)), (λ holds. grind (arith, nat_tests)))

  -- a word tells who holds the drive
  told : (d : ℕ) → WasHeld seats d (get_or words d 0)
  told d = dite (ℕ_discrete (get_or words d 0) 0) (λ z. inl z) (λ nz.
      let x : Seated = get_or seats (get_or words d 0 - 1) nobody in let known = r.known d in
      let at : get_elem? seats (get_or words d 0 - 1) ≡ some x = there seats (get_or words d 0 - 1) nobody (omega arith) in
      let n = (r.numbered (get_or words d 0 - 1) x at).number in
      inr (get_or words d 0 - 1, x, at, omega arith, inl (grind (arith, nat_tests, r.held (get_or words d 0 - 1) x d at))))

  -- the hold rule in its own words
  pub in_words : HoldRule words seats
  in_words = record {
    ranged = λ k x at. let n = r.numbered k x at in let n0 = n.number in let n1 = n.most in (omega arith, omega arith);
    distinct = λ j k x y at bt same. let m = (r.numbered j x at).number in let n = (r.numbered k y bt).number in omega arith;
    held = λ d h. ⊎_elim
        (λ z. inl (z, λ k x at. let n = (r.numbered k x at).number in r.held k x d at ∙ ne_eqb (get_or words d 0) x.view.number (λ e. absurd (omega arith))))
        (λ t. inr ((t.0, t.1, t.2, t.3), λ k x at. ((λ e. (finds_as k x d at).0 (sym e)), (λ hs. sym ((finds_as k x d at).1 hs)))))
        (told d);
    shown = λ k x at. (r.numbered k x at).shown;
  }

  -- who was found by the last step of a seat
  pub found_holder : (k : ℕ) (x : Seated) (j : ℕ) (y : Seated) → get_elem? seats k ≡ some x → get_elem? seats j ≡ some y → FoundHolder x.view y.view y.made
  found_holder k x j y at bt step last same = let here = (r.numbered j y bt).number in ⊎_elim
      (λ none. absurd (omega arith))
      (λ t. let there = (r.numbered t.0 t.1 t.2).number in let number = t.3 in let place : t.0 ≡ j = omega arith in grind arith)
      (r.found k x step at last)

  -- A new seat with the next number is added, to which the numbers that are left are passed on.
  added : ((k : ℕ) (u : Seated) → get_elem? seats k ≡ some u → u.spare ≡ 0) → (number spare : ℕ) → number ≡ length seats + 1 → number + spare ≤ SEAT_LIMIT
      → IsTableKept drives words (seats ++ seated (newcomer number) 0 spare ∷ [])
  added none number spare next most =
      let y : Seated = seated (newcomer number) 0 spare in
      let size : length (seats ++ y ∷ []) ≡ length seats + 1 = length_push seats y in
      let free : (d : ℕ) → has (newcomer number) d ≡ false = λ d. all_one DRIVE_LIMIT d false in record {
        size = r.size;
        small = r.small;
        few = omega arith;
        numbered = λ k u e. ⊎_elim (λ old. grind (arith, r.numbered k u old, none k u old))
            (λ new. let place = new.0 in subst (λ (x : Seated). IsNumbered (length (seats ++ y ∷ [])) k x) new.1
            (record { number = omega arith; most = most; newest = λ m. omega arith; marks = refl; shown = refl; begun = λ d h. absurd (true≢false (sym h ∙ free d)) }))
            (at_snoc_where seats y u k e);
        known = λ d. let o = r.known d in omega arith;
        held = λ k u d e. grind (arith, nat_tests, at_snoc_where seats y u k e, r.held k u d, free d, r.known d);
        found = λ k u step e is. ⊎_elim inl (λ t. inr (t.0, t.1, at_longer seats (y ∷ []) t.0 t.1 t.2, t.3, t.4))
            (⊎_elim (λ old. r.found k u step old is) (λ t. absurd (none-some step (ap (λ (x : Seated). x.view.last) t.1 ∙ is))) (at_snoc_where seats y u k e));
      }

-- A step of the seat v that finds `found` in the word d may leave m there, and these marks of v's drives: it writes and removes no number but v's own.
abbrev pub Leaves : List Seated → Seated → ℕ → ℕ → ℕ → List Bool → Type 0
Leaves seats v d found m held' = (m ≤ length seats) × (held' ≡ set v.view.held d (eqb m v.view.number)) × ((n : ℕ) → n ≢ 0 → n ≢ v.view.number → eqb m n ≡ eqb found n)

module _ {drives : ℕ} {words : List ℕ} {seats : List Seated} (r : IsTableKept drives words seats) (id : ℕ) (v : Seated) (at : get_elem? seats id ≡ some v) where
  -- The seat becomes w, with the same number, and the words `after`. Each seat holds the drives whose words are its number.
  changed : (w : Seated) (after : List ℕ) → length after ≡ length words → ((d : ℕ) → get_or after d 0 ≤ length seats) → IsNumbered (length seats) id w
      → ((d : ℕ) → has w.view d ≡ eqb (get_or after d 0) w.view.number)
      → ((k : ℕ) (u : Seated) (d : ℕ) → k ≢ id → get_elem? seats k ≡ some u → has u.view d ≡ eqb (get_or after d 0) u.view.number)
      → ((step : LastStep) → w.view.last ≡ Some step → WasHeld seats step.drive step.found)
      → ((d : ℕ) → (has v.view d ≡ true) ⊎ (2 ≤ v.made) → (has w.view d ≡ true) ⊎ (2 ≤ w.made))
      → IsTableKept drives after (set seats id w)
  changed w after sized known numbered mine others found more =
      let counted : length (set seats id w) ≡ length seats = length-set seats id w in let few = r.few in
      let own = numbered.number in let was = (r.numbered id v at).number in
      let still : (d n : ℕ) → WasHeld seats d n → WasHeld (set seats id w) d n = λ d n. ⊎_elim inl (λ t. inr (dite (ℕ_discrete t.0 id)
      (λ here. (id, w, set_here seats id w (reads seats id v v at).0, grind arith, more d (grind arith)))
      (λ ne. (t.0, t.1, set_else seats id t.0 w ne ∙ t.2, t.3, t.4)))) in record {
        size = sized ∙ r.size;
        small = r.small;
        few = omega arith;
        numbered = λ k u e. grind (arith, at_set seats id k w u e, r.numbered k u);
        known = λ d. let o = known d in omega arith;
        held = λ k u d e. grind (arith, at_set seats id k w u e, mine d, others k u d);
        found = λ k u step e is. still step.drive step.found
            (⊎_elim (λ t. found step (ap (λ (x : Seated). x.view.last) t.1 ∙ is)) (λ t. r.found k u step t.1 is) (at_set seats id k w u e));
      }

  -- The word d becomes m, and the seat's mark there is as the word is then.
  pub placed : (kind : StepKind) (d found m : ℕ) (held' : List Bool) → d < length words → get_or words d 0 ≡ found → Leaves seats v d found m held'
      → IsTableKept drives (set words d m) (set seats id (stepped v (moved v.view held' (last_step kind d found))))
  placed kind d found m held' inside finds (bound, marked, others) =
      let n = r.numbered id v at in let own = n.number in let wide = n.marks in let small = r.small in let size = r.size in
      changed (stepped v (moved v.view held' (last_step kind d found))) (set words d m) (length-set words d m)
      (λ i. grind (arith, get_or-set_at, get_or-set_other, r.known i))
      (grind (arith, length-set v.view.held d (eqb m v.view.number), ap length marked))
      (λ i. grind (arith, get_or-set_at, get_or-set_other, r.held id v i at))
      (λ k u i apart e. let theirs = (r.numbered k u e).number in grind (arith, get_or-set_at, get_or-set_other, r.held k u i e, others u.view.number))
      (λ step is. subst (λ (z : LastStep). WasHeld seats z.drive z.found) (same_Some (last_step kind d found) step is) (subst (WasHeld seats d) finds (told r d)))
      (λ i h. inr (grind (arith, n.begun i)))

  -- what a look leaves, and a take of a drive that is held
  pub look_leaves : (d : ℕ) → Leaves seats v d (get_or words d 0) (get_or words d 0) v.view.held
  look_leaves d = (r.known d, sym (ap (set v.view.held d) (sym (r.held id v d at)) ∙ set-get_or v.view.held d false), λ n nz ne. refl)

  -- what a take leaves
  pub take_leaves : (d f : ℕ) → get_or words d 0 ≡ f → Leaves seats v d f (cond (eqb f 0) v.view.number f) (cond (eqb f 0) (set v.view.held d true) v.view.held)
  take_leaves d f finds =
      let own = (r.numbered id v at).number in let below = (reads seats id v v at).0 in grind (arith, nat_tests, look_leaves d)

  -- what a give leaves
  pub give_leaves : (d : ℕ) → Leaves seats v d v.view.number 0 (set v.view.held d false)
  give_leaves d = let own = (r.numbered id v at).number in grind (arith, nat_tests)

  -- the seat's numbers are handed on to a new seat
  pub deals_one : 0 < v.spare → IsTableKept drives words (set seats id (settled v) ++ following v ∷ [])
  deals_one more =
      let n = r.numbered id v at in let number = n.number in let most = n.most in let last = n.newest more in
      let counted : length (set seats id (settled v)) ≡ length seats = length-set seats id (settled v) in
      added (changed (settled v) words refl r.known
      (grind (arith, n.begun)) (λ d. r.held id v d at) (λ k u d ne e. r.held k u d e) (λ step. r.found id v step at) (λ d h. h))
      (λ k u e. grind (arith, at_set seats id k (settled v) u e, r.numbered k u))
      (v.view.number + 1) (v.spare - 1) (omega arith) (omega arith)

-- the table is as it should be at the start
pub opens_one : (drives : ℕ) (words : List ℕ) → drives ≤ DRIVE_LIMIT → words ≡ replicate drives 0 → IsTableKept drives words (seated (newcomer 1) 0 (SEAT_LIMIT - 1) ∷ [])
opens_one drives words small is =
    let empty : IsTableKept drives words [] = grind (arith, length-replicate {A = ℕ} drives 0, all_one {A = ℕ}) in
    added empty (λ k u e. absurd (some-ne-none u (sym e))) 1 (SEAT_LIMIT - 1) (omega arith) (omega arith)
