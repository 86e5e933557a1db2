-- Where the seats are, as groups step, are joined and are split.
use Rattle.atomic_table.proofs.Lists.{at_set, set_here, set_else, at_longer, at_last}
use Rattle.hold_table.proofs.Names.{◌≡◌, ◌≢◌, ◌⊎◌, inl, inr, ⊎_elim, ℕ, suc, ◌+◌, ◌-◌, ◌<◌, ◌≤◌, List, [], ◌∷◌, ◌++◌, length, set, length-set, sym, refl, ap, ◌∙◌, subst, subst₂, arith}
use Rattle.hold_table.proofs.Names.{some, some-ne-none, get_elem?, Seated, SeatGroup, IsInGroup, AreGrouped, HoldRule}
use Rattle.hold_table.proofs.Lists.{reads, at_snoc_where, at_insert, at_second}

-- an empty group has no seat, and a group of one has it
at_none : (c : SeatGroup) (j : ℕ) (z : Seated) → [] ≡ c → get_elem? c j ≡ some z → ⊥
at_none c j z e at = some-ne-none z (sym (subst (λ (g : SeatGroup). get_elem? g j ≡ some z) (sym e) at))

at_one : (x : Seated) (c : SeatGroup) (j : ℕ) (z : Seated) → x ∷ [] ≡ c → get_elem? c j ≡ some z → (j ≡ 0) × (x ≡ z)
at_one x c j z e at = ⊎_elim (λ no. absurd (some-ne-none z (sym no))) (λ t. t) (at_snoc_where [] x z j (subst (λ (g : SeatGroup). get_elem? g j ≡ some z) (sym e) at))

module _ {seats : List Seated} {old : List SeatGroup} (spread : AreGrouped seats old) where
  -- The same seats lie at other places. Each place comes from another one of the same seat, and tells which.
  spread_anew : (new : List SeatGroup) (Goes : ℕ → ℕ → ℕ → ℕ → Type 0)
      → ((m i k j n l : ℕ) → Goes m i k j → Goes m i n l → (k ≡ n) × (j ≡ l))
      → ((k j : ℕ) (x : Seated) → IsInGroup new k j x → (m : ℕ) × (i : ℕ) × IsInGroup old m i x × Goes m i k j) → AreGrouped seats new
  spread_anew new Goes one from = record {
    known = λ k j x l. let o = from k j x l in spread.known o.0 o.1 x o.2;
    once = λ k j x m i y l n same. let o = from k j x l in let q = from m i y n in
        let both = spread.once o.0 o.1 x q.0 q.1 y o.2 q.2 same in one q.0 q.1 k j m i (subst₂ (λ a b. Goes a b k j) both.0 both.1 o.3) q.3;
  }

  module _ {words : List ℕ} (rule : HoldRule words seats) (id : ℕ) (x w : Seated) (gs : SeatGroup) (same : w.view.number ≡ x.view.number) (lies : get_elem? old id ≡ some (x ∷ gs)) where
    abbrev Lay : ℕ → ℕ → Seated → Type 0
    Lay k j y = (z : Seated) × IsInGroup old k j z × (z.view.number ≡ y.view.number) × (get_elem? (set seats (x.view.number - 1) w) (y.view.number - 1) ≡ some y)

    -- a seat lies where one of the same number lay, and the seats have it by its number
    lay : (k j : ℕ) (y : Seated) → IsInGroup (set old id (w ∷ gs)) k j y → Lay k j y
    lay k j y (c, e, a) =
        let first : IsInGroup old id 0 x = (x ∷ gs, lies, refl) in let at = spread.known id 0 x first in let one = (rule.ranged (x.view.number - 1) x at).0 in
        let other : IsInGroup old k j y → (k ≢ id) ⊎ (1 ≤ j) → Lay k j y = λ l apart. let there = spread.known k j y l in
        let two = (rule.ranged (y.view.number - 1) y there).0 in let alone = spread.once k j y id 0 x l first in (y, l, refl, grind (arith, set_else)) in ⊎_elim
        (λ t. let lain = ap (get_elem? old) t.0 ∙ lies in ⊎_elim
        (λ o. let here = set_here seats (x.view.number - 1) w (reads seats (x.view.number - 1) x x at).0 in
        (x, (x ∷ gs, lain, ap (get_elem? (x ∷ gs)) o.0), grind arith, grind arith))
        (λ o. let next : j ≡ suc o.0 = (let p = o.2 in omega arith) in other (x ∷ gs, lain, ap (get_elem? (x ∷ gs)) next ∙ o.1) (inr (omega arith)))
        (at_insert [] gs w y j (subst (λ (g : SeatGroup). get_elem? g j ≡ some y) (sym t.1) a)))
        (λ t. other (c, t.1, a) (inl t.0))
        (at_set old id k (w ∷ gs) c e)

    -- the seat has stepped
    pub spread_moved : AreGrouped (set seats (x.view.number - 1) w) (set old id (w ∷ gs))
    spread_moved = record {
      known = λ k j y l. (lay k j y l).3;
      once = λ k j y m i z l n e. let a = lay k j y l in let b = lay m i z n in spread.once k j a.0 m i b.0 a.1 b.1 (a.2 ∙ e ∙ sym b.2);
    }

  -- a new seat, with the next number
  pub spread_more : (y : Seated) → y.view.number ≡ length seats + 1 → AreGrouped (seats ++ y ∷ []) (old ++ (y ∷ []) ∷ [])
  spread_more y next =
      let there : (k j : ℕ) (z : Seated) → IsInGroup (old ++ (y ∷ []) ∷ []) k j z → (IsInGroup old k j z) ⊎ ((k ≡ length old) × (j ≡ 0) × (y ≡ z)) =
      λ k j z l. ⊎_elim (λ e. inl (l.0, e, l.2)) (λ t. let o = at_one y l.0 j z t.1 l.2 in inr (t.0, o.0, o.1)) (at_snoc_where old (y ∷ []) l.0 k l.1) in
      let below : (k j : ℕ) (z u : Seated) → IsInGroup old k j z → y ≡ u → z.view.number ≢ u.view.number = λ k j z u l is e.
      let number = ap (λ (a : Seated). a.view.number) is in let b = (reads seats (z.view.number - 1) z z (spread.known k j z l)).0 in absurd (omega arith) in record {
        known = λ k j z l. grind (arith, there k j z l, at_longer seats (y ∷ []) (z.view.number - 1) z, at_last seats y (y.view.number - 1), spread.known k j z);
        once = λ k j z m i u l n e. grind (arith, there k j z l, there m i u n, below k j z u, below m i u z, spread.once k j z m i u);
      }

  -- the first seat of another group is added to a group, after the seats of `l`
  pub spread_joined : (id other : ℕ) (l m ds : SeatGroup) (y : Seated) → other ≢ id → get_elem? old id ≡ some (l ++ m) → get_elem? old other ≡ some (y ∷ ds)
      → AreGrouped seats (set (set old id (l ++ y ∷ m)) other [])
  spread_joined id other l m ds y apart at bt = spread_anew (set (set old id (l ++ y ∷ m)) other [])
      (λ n i k j. ((n ≡ other) × (i ≡ 0) × (k ≡ id) × (j ≡ length l)) ⊎ (((n ≡ id) × (k ≡ id) × (((i < length l) × (j ≡ i)) ⊎ ((length l ≤ i) × (j ≡ suc i))))
      ⊎ ((n ≢ other) × (n ≢ id) × (k ≡ n) × (j ≡ i))))
      (λ n i k j o h a b. omega arith)
      (λ k j z t. ⊎_elim
      (λ u. absurd (at_none t.0 j z u.1 t.2))
      (λ u. ⊎_elim
      (λ v. ⊎_elim
      (λ q. (other, 0, (y ∷ ds, bt, ap some q.1), inl (refl, refl, v.0, q.0)))
      (λ q. (id, q.0, (l ++ m, at, q.1), inr (inl (refl, v.0, q.2))))
      (at_insert l m y z j (subst (λ (a : SeatGroup). get_elem? a j ≡ some z) (sym v.1) t.2)))
      (λ v. (k, j, (t.0, v.1, t.2), inr (inr (u.0, v.0, refl, refl))))
      (at_set old id k (l ++ y ∷ m) t.0 u.1))
      (at_set (set old id (l ++ y ∷ m)) other k [] t.0 t.1))

  -- a group of no seat is made
  pub spread_entered : AreGrouped seats (old ++ [] ∷ [])
  spread_entered = spread_anew (old ++ [] ∷ []) (λ m i k j. (k ≡ m) × (j ≡ i)) (λ m i k j n l a b. omega arith)
      (λ k j z l. ⊎_elim (λ e. (k, j, (l.0, e, l.2), (refl, refl))) (λ t. absurd (at_none l.0 j z t.1 l.2)) (at_snoc_where old [] l.0 k l.1))

  -- the second of a group's seats is split off, into a group of its own
  pub spread_split : (id : ℕ) (x y : Seated) (gs : SeatGroup) → get_elem? old id ≡ some (x ∷ y ∷ gs) → AreGrouped seats (set old id (x ∷ gs) ++ (y ∷ []) ∷ [])
  spread_split id x y gs at = spread_anew (set old id (x ∷ gs) ++ (y ∷ []) ∷ [])
      (λ n i k j. ((n ≡ id) × (i ≡ 1) × (k ≡ length old) × (j ≡ 0)) ⊎ (((n ≡ id) × (k ≡ id) × (((j ≡ 0) × (i ≡ 0)) ⊎ ((1 ≤ j) × (i ≡ suc j))))
      ⊎ ((n ≢ id) × (k ≡ n) × (j ≡ i))))
      (λ n i k j o h a b. omega arith)
      (λ k j z l. ⊎_elim
      (λ e. ⊎_elim
      (λ t. let q = at_second x y z gs j (subst (λ (a : SeatGroup). get_elem? a j ≡ some z) (sym t.1) l.2) in (id, q.0, (x ∷ y ∷ gs, at, q.1), inr (inl (refl, t.0, q.2))))
      (λ t. (k, j, (l.0, t.1, l.2), inr (inr (t.0, refl, refl))))
      (at_set old id k (x ∷ gs) l.0 e))
      (λ t. let o = at_one y l.0 j z t.1 l.2 in (id, 1, (x ∷ y ∷ gs, at, ap some o.1), inl (refl, refl, t.0 ∙ length-set old id (x ∷ gs), o.0)))
      (at_snoc_where (set old id (x ∷ gs)) (y ∷ []) l.0 k l.1))

-- the first seat of a new table
pub spread_first : (x : Seated) → x.view.number ≡ 1 → AreGrouped (x ∷ []) ((x ∷ []) ∷ [])
spread_first x one =
    let none : AreGrouped [] [] = grind arith in spread_more none x (omega arith)
