-- What an entering leaves of a list.
use Rattle.dumpdates.proofs.Terms.{◌≡◌, arith, Bool, true, not, List, [], ◌∷◌, filter, refl, and_from, eq-eqb, bytes_eq-Decides, DatesEntry, IsEntry, AreEntries, is_same, others, entered}

-- an entry is of its own name and level
self_same : (e : DatesEntry) → is_same e e ≡ true
self_same e = and_from _ _ ((bytes_eq-Decides e.name e.name).1 refl) (eq-eqb e.level e.level refl)

-- what passes is none of what does not
none_left : (p : DatesEntry → Bool) (xs : List DatesEntry) → filter p (filter (λ x. not (p x)) xs) ≡ []
none_left p [] = refl
none_left p (x ∷ xs) = grind (arith, none_left p xs)

-- what passed passes again
kept_again : (p : DatesEntry → Bool) (xs : List DatesEntry) → filter p (filter p xs) ≡ filter p xs
kept_again p [] = refl
kept_again p (x ∷ xs) = grind (arith, kept_again p xs)

-- of its name and level there is the new one alone
pub one_entered : (xs : List DatesEntry) (e : DatesEntry) → filter (is_same e) (entered xs e) ≡ e ∷ []
one_entered [] e = rw (self_same e) refl
one_entered (x ∷ xs) e = grind (arith, self_same e, none_left (is_same e) xs, one_entered xs e)

-- the others stay
pub others_stay : (xs : List DatesEntry) (e : DatesEntry) → others e (entered xs e) ≡ others e xs
others_stay [] e = rw (self_same e) refl
others_stay (x ∷ xs) e = grind (arith, self_same e, kept_again (λ y. not (is_same e y)) xs, others_stay xs e)

-- a second time changes nothing
pub entered_again : (xs : List DatesEntry) (e : DatesEntry) → entered (entered xs e) e ≡ entered xs e
entered_again [] e = rw (self_same e) refl
entered_again (x ∷ xs) e = grind (arith, self_same e, kept_again (λ y. not (is_same e y)) xs, entered_again xs e)

others_within : (e : DatesEntry) (xs : List DatesEntry) → AreEntries xs → AreEntries (others e xs)
others_within e [] h = tt
others_within e (x ∷ xs) h = grind (arith, others_within e xs h.1)

-- and they are entries
pub entered_within : (xs : List DatesEntry) (e : DatesEntry) → AreEntries xs → IsEntry e → AreEntries (entered xs e)
entered_within [] e h i = (i, tt)
entered_within (x ∷ xs) e h i = grind (arith, others_within e xs h.1, entered_within xs e h.1 i)
