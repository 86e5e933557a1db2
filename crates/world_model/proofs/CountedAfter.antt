-- Each count is that of an attempt, whatever happens but a request that is carried out.
use Rattle.world_model.proofs.Basics.{◌≡◌, ℕ, List, ◌++◌, ap, inl, inr, arith, if◌then◌else◌, [], ◌∷◌, Contains, sym, subst, Contains-append_right, eqb_tells, eq-eqb, zero, suc}
use Rattle.world_model.proofs.Terms.{Connection, AttemptState, Begun, World, Count, Opening, opening, reel_opened_by, IsOwned, AreTold, IsSingle, AreSingle, IsEarnedBy, EachCountHasAttempt}
use Rattle.world_model.proofs.Ground.{OneReply, Listens, told_counts}
use Rattle.world_model.proofs.ToldHears.{open_attempt, IsHearing, hearing_now, HasNewCount, new_count, counted_is}
use Rattle.world_model.proofs.LabelledEvents.{connection_still, Quietly}

-- the first opening of a connection is there, if one is
reel_there : (k : ℕ) (opens : List Opening) (reel : List ℕ) → Contains opens (opening k reel) → Contains opens (opening k (reel_opened_by k opens))
reel_there k [] reel (i, within, is) = absurd (omega (arith, within))
reel_there k (o ∷ rest) reel (zero, within, is) = (0, within, (grind (arith, eq-eqb)))
reel_there k (o ∷ rest) reel (suc i, within, is) = elim (eqb_tells o.connection k) [
  | inl (equal, same) ↦ (0, omega arith, (grind arith))
  | inr (unequal, other) ↦ subst (λ r. Contains (o ∷ rest) (opening k r)) (ap (λ b. if b then o.reel else reel_opened_by k rest) (sym unequal))
      (Contains-append_right (o ∷ []) rest (opening k (reel_opened_by k rest)) (reel_there k rest reel (i, omega (arith, within), is)))
]

-- an attempt that is told of later, with the same notes
still_earned : (w u : World) (x : Count) (l : Connection) (d : AttemptState) (b : Begun) → Quietly w u → IsEarnedBy w x l d b
    → (m : Connection) × (e : AttemptState) × (c : Begun) × IsEarnedBy u x m e c
still_earned w u x l d b q e = grind (arith, connection_still)

-- no count more
pub same_earned : (w u : World) → Quietly w u → u.counts ≡ w.counts → EachCountHasAttempt w → EachCountHasAttempt u
same_earned w u q counts earned x among =
    let e = earned x (subst (λ xs. Contains xs x) counts among) in
    still_earned w u x e.0 e.1 e.2 q e.3

-- the count of an attempt of which all was done up to its close
new_earned : (w u : World) (t : Listens w) (h : IsHearing w t) → HasNewCount w t h → Quietly w u → IsSingle w.opens t.k t.d → (x : Count) → x ≡ new_count w t
    → (m : Connection) × (e : AttemptState) × (c : Begun) × IsEarnedBy u x m e c
new_earned w u t h new q single x is =
    let done = new.goes.done in
    let at = open_attempt t.c.at.counts h.step new.other in
    let its = single.some done.label in
    let there = reel_there t.k w.opens its.0 its.1 in
    still_earned w u x t.l t.d h.b q (grind (arith, done.label, h.attempt.first, at, there))

-- the client heard, and may have counted
pub listens_earned : OneReply → (w u : World) (t : Listens w) → u.counts ≡ w.counts ++ told_counts w t → Quietly w u → IsOwned w → AreTold w → AreSingle w → EachCountHasAttempt w → EachCountHasAttempt u
listens_earned g w u t counts q owned told single earned x among =
    let h = hearing_now g w t owned told in
    elim (counted_is w u t counts h x among) [
      | inl before ↦ (let e = earned x before in still_earned w u x e.0 e.1 e.2 q e.3)
      | inr (new, is) ↦ new_earned w u t h new q (single t.k t.l t.d t.there t.dump) x is
    ]
