-- What the words of a closed table tell.
use Rattle.std.proofs.lemmas.Bool.Decides.{nat_tests}
use Rattle.std.proofs.lemmas.List.{length-map}
use Rattle.drives.specs.declared.view.View.{View}
use Rattle.atomic_table.proofs.Lists.{at_map}
use Rattle.hold_table.specs.Closing.{IsClosing}
use Rattle.hold_table.proofs.Names.{◌≡◌, ◌≢◌, ◌↔◌, ℕ, zero, suc, ◌-◌, ◌<◌, ◌≤◌, IsTrue, true, false, cond, eqb, List, ◌∷◌, length, get_or, sym, refl, ap, ◌∙◌, subst, subst₂, arith, dite, ℕ_discrete, some, get_elem?}
use Rattle.hold_table.proofs.Names.{State, has, newcomer, SEAT_LIMIT, Seated, seated, SeatGroup, KeepsRule, nobody, FindsAs, TableSeat, group_views, views_of, IsFound}
use Rattle.hold_table.proofs.Keeps.{finds_as}
use Rattle.hold_table.proofs.Lists.{there, at_image}

-- numbers below m that differ are at most m
at_most : (n m : ℕ) (f : ℕ → ℕ) → ((i : ℕ) → i < n → f i < m) → ((i j : ℕ) → i < n → j < n → f i ≡ f j → i ≡ j) → n ≤ m
at_most zero m f below differ = omega arith
at_most (suc n) zero f below differ = absurd (let z = below n (omega arith) in omega arith)
at_most (suc n) (suc m) f below differ =
    let least = at_most n m (λ i. cond (eqb (f i) m) (f n) (f i)) (λ i lt. grind (arith, nat_tests, below i, below n, differ i n))
    (λ i j p q e. grind (arith, nat_tests, differ i j, differ i n, differ n j)) in omega arith

-- seats have less than m distinct numbers from 1 to m, if none has the number n
fewer : (c : SeatGroup) (m n : ℕ) → 1 ≤ n → n ≤ m → ((k : ℕ) (x : Seated) → get_elem? c k ≡ some x → (1 ≤ x.view.number) × (x.view.number ≤ m))
    → ((j k : ℕ) (x y : Seated) → get_elem? c j ≡ some x → get_elem? c k ≡ some y → x.view.number ≡ y.view.number → j ≡ k)
    → ((k : ℕ) (x : Seated) → get_elem? c k ≡ some x → x.view.number ≢ n) → length c < m
fewer c m n low high ranged distinct never =
    let x : ℕ → Seated = λ k. get_or c k nobody in
    let at : (k : ℕ) → suc k < suc (length c) → get_elem? c k ≡ some (x k) = λ k p. there c k nobody (omega arith) in
    at_most (suc (length c)) m (λ k. (get_or (seated (newcomer n) 0 0 ∷ c) k nobody).view.number - 1)
    (elim [ zero ↦ λ p. omega arith | suc k ↦ λ p. let r = ranged k (x k) (at k p) in let r0 = r.0 in let r1 = r.1 in omega arith ])
    (elim [
      | zero ↦ elim [ zero ↦ λ p q e. refl | suc k ↦ λ p q e. let s = (ranged k (x k) (at k q)).0 in absurd (never k (x k) (at k q) (omega arith)) ]
      | suc j ↦ elim [
        | zero ↦ λ p q e. let r = (ranged j (x j) (at j p)).0 in absurd (never j (x j) (at j p) (omega arith))
        | suc k ↦ λ p q e. let r = (ranged j (x j) (at j p)).0 in let s = (ranged k (x k) (at k q)).0 in ap suc (distinct j k (x j) (x k) (at j p) (at k q) (omega arith))
      ]
    ])

-- the word of a drive is true of the seats of each group
pub group_tells : (drives id : ℕ) (c : SeatGroup) (s : State (Unit {0}) SeatGroup) → KeepsRule drives s.words s.views → get_elem? s.views id ≡ some c
    → (d : ℕ) → IsFound (get_or s.words d 0) d (group_views c)
group_tells drives id c s rs at d =
    let f : Seated → View = λ x. x.view in
    let place : (k : ℕ) (x : Seated) → get_elem? c k ≡ some x → get_elem? rs.seats (x.view.number - 1) ≡ some x = λ k x e. rs.spread.known id k x (c, at, e) in
    let finds : (k : ℕ) (x : Seated) → get_elem? c k ≡ some x → FindsAs (get_or s.words d 0) d x =
    λ k x e. finds_as rs.kept (x.view.number - 1) x d (place k x e) in record {
      holder = λ k v e. let a = at_image f c k v e in subst (λ (u : View). get_or s.words d 0 ≡ u.number ↔ IsTrue (has u d)) a.2 (finds k a.0 a.1);
      free = λ all idle. dite (ℕ_discrete (get_or s.words d 0) 0) (λ z. z) (λ nz.
          let few = rs.kept.few in let most = rs.kept.known d in let full : length c ≡ SEAT_LIMIT = sym (length-map c f) ∙ all in
          let less = fewer c SEAT_LIMIT (get_or s.words d 0) (omega arith) (omega arith) (λ k x e. rs.rule.ranged (x.view.number - 1) x (place k x e))
          (λ j k x y e g same. (rs.spread.once id j x id k y (c, at, e) (c, at, g) same).1)
          (λ k x e same. let no : has x.view d ≡ false = idle k (f x) (at_map f c k x e) in let yes : has x.view d ≡ true = (finds k x e).0 (sym same) in absurd cc) in
          absurd (omega arith));
    }

-- the words of a table at its end
pub ends : (drives id : ℕ) (c : SeatGroup) (seats : List TableSeat) (words : List ℕ) (s : State (Unit {0}) SeatGroup) → KeepsRule drives s.words s.views
    → get_elem? s.views id ≡ some c → group_views c ≡ views_of seats → ((d : ℕ) → get_or words d 0 ≡ get_or s.words d 0) → IsClosing words seats
ends drives id c seats words s rs at same is =
    let f : TableSeat → View = λ x. x.view in
    let found : (d : ℕ) → IsFound (get_or words d 0) d (views_of seats) = λ d. subst₂ (λ n vs. IsFound n d vs) (sym (is d)) same (group_tells drives id c s rs at d) in
    let seat : (k : ℕ) (x : TableSeat) → get_elem? seats k ≡ some x → (y : Seated) × (get_elem? c k ≡ some y) × (y.view ≡ x.view) =
    λ k x e. at_image (λ y. y.view) c k x.view (ap (λ vs. get_elem? vs k) same ∙ at_map f seats k x e) in record {
      distinct = λ j k x y e g number. let a = seat j x e in let b = seat k y g in
          (rs.spread.once id j a.0 id k b.0 (c, at, a.1) (c, at, b.1) (ap (λ v. v.number) a.2 ∙ number ∙ sym (ap (λ v. v.number) b.2))).1;
      known = λ d. let few = rs.kept.few in let most = rs.kept.known d in let e = is d in omega arith;
      held = λ k x d e. (found d).holder k x.view (at_map f seats k x e);
      free = λ d all idle. (found d).free (length-map seats f ∙ all) (λ k v e. let a = at_image f seats k v e in subst (λ (u : View). has u d ≡ false) a.2 (idle k a.0 a.1));
    }
