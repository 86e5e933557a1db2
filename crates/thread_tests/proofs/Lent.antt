-- What the number that a seat finds says of the seats that are lent to it.
use mathlib.Core.Option.{some, some-injective, some-ne-none}
use lib.ListN.{get_elem?}
use Rattle.std.proofs.Common.{◌≡◌, ℕ, zero, suc, true, false, IsTrue, List, [], ◌∷◌, ◌++◌, map, length, All, sym, refl, subst, arith}
use Rattle.std.proofs.lemmas.List.Elements.{All-nil}
use Rattle.atomic_table.proofs.Lists.{at_map, at_longer}
use Rattle.drives.specs.Holding.{has, found_by, TakeAnswers}
use Rattle.drives.specs.declared.taken.Taken.{Taken}
use Rattle.drives.specs.declared.taken.Taken.TheVariants.{Held, Busy}
use Rattle.drives.specs.declared.view.View.{View}
use Rattle.std.proofs.lemmas.List.{length-map, length-append}
use Rattle.atomic_table.specs.Seated.{TableId}
use Rattle.hold_table.proofs.Lists.{reads}
use Rattle.hold_table.specs.Seats.{TableSeat, IsSeatAt, IsFound, views_among, lone}
use Rattle.hold_table.specs.declared.rule.Seated.{Seated}

pub names : (n d : ℕ) (s : TableSeat) (others : List TableSeat) → IsFound n d (views_among s others)
    → (k : ℕ) (o : TableSeat) → get_elem? others k ≡ some o → IsTrue (has o.view d) → n ≡ o.view.number
names n d s others found k o at holds =
    let f : TableSeat → View = λ a. a.view in
    (found.holder (suc k) o.view (at_longer (map f others) (map (λ w. w.view) s.beside) k o.view (at_map f others k o at))).1 holds

none_holds : (d : ℕ) (others : List TableSeat) → ((k : ℕ) (o : TableSeat) → get_elem? others k ≡ some o → has o.view d ≡ false)
    → (k : ℕ) (v : View) → get_elem? (map (λ a. a.view) others ++ []) k ≡ some v → has v d ≡ false
none_holds d [] none k v e = absurd (some-ne-none v (sym e))
none_holds d (o ∷ os) none zero v e = subst (λ (u : View). has u d ≡ false) (some-injective o.view v e) (none zero o refl)
none_holds d (o ∷ os) none (suc k) v e = none_holds d os (λ i. none (suc i)) k v e

pub held_of : (t : Taken) (old new : View) (d : ℕ) → TakeAnswers t old new d → found_by t ≡ 0 → t ≡ Held
held_of Held old new d answers none = refl
held_of (Busy n) old new d answers none = absurd (omega arith)

pub free : (n d : ℕ) (s : TableSeat) (others : List TableSeat) (t : TableId) → IsFound n d (views_among s others) → length others ≡ 31 → s.beside ≡ [] → has s.view d ≡ false
    → All (λ (o : TableSeat). IsSeatAt t o × (has o.view d ≡ false)) others → n ≡ 0
free n d s others t found all lone idle none =
    let f : TableSeat → View = λ a. a.view in let g : Seated → View = λ w. w.view in
    let each : (k : ℕ) (o : TableSeat) → get_elem? others k ≡ some o → has o.view d ≡ false = λ k o at.
    let r = reads others k o o at in subst (λ (a : TableSeat). has a.view d ≡ false) r.1 (none k o r.0).1 in
    let full : length (s.view ∷ (map f others ++ [])) ≡ 32 = omega (arith, length-append (map f others) [], length-map others f) in
    found.free (subst (λ (ws : List Seated). length (s.view ∷ (map f others ++ map g ws)) ≡ 32) (sym lone) full)
    (subst (λ (ws : List Seated). (k : ℕ) (v : View) → get_elem? (s.view ∷ (map f others ++ map g ws)) k ≡ some v → has v d ≡ false) (sym lone)
    (elim [ zero ↦ λ v e. subst (λ (u : View). has u d ≡ false) (some-injective s.view v e) idle | suc k ↦ none_holds d others each k ]))

-- what is true of all seats, whatever their witnesses, is true of them without witnesses
pub all_lone : (t : TableId) (d : ℕ) (others news : List TableSeat) → news ≡ map lone others → All (λ (o : TableSeat). IsSeatAt t o × (has o.view d ≡ false)) others
    → All (λ (o : TableSeat). IsSeatAt t o × (has o.view d ≡ false)) news
all_lone t d others news is all = subst (λ l. All (λ (o : TableSeat). IsSeatAt t o × (has o.view d ≡ false)) l) (sym is) (walk others all)
  where
    P : TableSeat → Type 0
    P = λ o. IsSeatAt t o × (has o.view d ≡ false)

    walk : (xs : List TableSeat) → All P xs → All P (map lone xs)
    walk [] a = All-nil P
    walk (x ∷ xs) a = elim [
      | zero ↦ λ y h. let p = a zero x (omega arith) in (record { same = p.0.same; numbered = p.0.numbered; dealt = p.0.dealt }, p.1)
      | suc k ↦ λ y h. walk xs (λ i z l. a (suc i) z (omega arith)) k y (omega arith)
    ]

pub held_has : (t : Taken) (old new : View) (d : ℕ) → TakeAnswers t old new d → found_by t ≡ 0 → has new d ≡ true
held_has Held old new d answers none = answers.2
held_has (Busy n) old new d answers none = absurd (omega arith)
