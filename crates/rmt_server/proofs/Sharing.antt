-- A session still fits its drives after what is not its own, and several sessions at the drives of one thread.
use Rattle.std.proofs.Common.{◌≡◌, ◌≢◌, ℕ, ◌<◌, IsTrue, length, Option, Some, sym, ◌∙◌, arith}
use Rattle.std.proofs.lemmas.Bool.Decides.{nat_tests}
use Rattle.rmt_server.proofs.Names.{of_reel, of_stacks, ReelPromise, View, has, Holders, IsSeatOf, Kinds, kinds, Opened, drive_of, online_drive}
use Rattle.drives.specs.declared.holds.Holds.{Ghosts as HoldsPromise}
use Rattle.drives.specs.declared.stacks.Stacks.{Ghosts as StacksPromise}
use Rattle.drives.specs.contracts.local.LocalHoldsHolds.TheImpl.{ghosts as of_holds}
use Rattle.rmt_server.specs.Laws.{NoDriveIsOpenTwice, OthersStayAt, OpenIsHeld, FreeIsClosed, StaysAt, StaysAtElsewhere, StaysAtWithMoreSeats}
use Rattle.rmt_server.specs.Laws.{StaysAtUnderTrouble}

-- two seats do not hold one drive
two_seats : (all : Holders) (v w : View) (d : ℕ) → IsSeatOf all v → IsSeatOf all w → v.number ≢ w.number → d < length all.numbers
    → IsTrue (has v d) → IsTrue (has w d) → ⊥
two_seats all v w d a b n l x y = grind (arith, nat_tests, a.agrees d l, b.agrees d l)

drive_is_online : {R : Type 0} (opened : Option (Opened R)) (d : ℕ) → online_drive opened ≡ Some d → drive_of opened ≡ Some d
drive_is_online opened d e = grind arith

module _ {H S Seat R : Type 0} (k : Kinds H Seat S R) where
  -- the seat still belongs to the holds, the counts of drives are as before, and the open reel is still latched
  pub still : StaysAt k
  still old new session_state at own same_holds same_stacks latched = grind arith

  -- what was done at a drive that is not open here
  pub still_elsewhere : StaysAtElsewhere k
  still_elsewhere old new session_state d at other own same_holds same_stacks elsewhere = grind (arith, drive_is_online session_state.opened)

module _ {S R : Type 0} (s : StacksPromise S R) (r : ReelPromise R) where
  abbrev local : Kinds Holders View S R
  local = kinds of_holds s r

  -- the open drive is held by the session's seat
  pub open_held : OpenIsHeld local
  open_held drives session_state d at e =
      let l : d < length drives.holds.numbers = omega (arith, at.below d e, at.enough) in
      (l, grind (arith, nat_tests, at.own.agrees d l, (at.held d).1 e))

  -- so a drive that has no holder is not open
  pub free_closed : FreeIsClosed local
  free_closed drives session_state d at free e = omega (arith, (open_held drives session_state d at e).1, free.1, at.own.numbered)

  -- two sessions do not have one drive open
  pub has_one_holder : NoDriveIsOpenTwice local
  has_one_holder drives one other d a b n x y =
      two_seats drives.holds one.seat other.seat d a.own b.own n (omega (arith, a.below d x, a.enough)) ((a.held d).1 x) ((b.held d).1 y)

  -- at the drives of one thread no other session has one of those drives open
  pub others_stay : OthersStayAt local
  others_stay old new one after other a b n a' kept =
      let own = kept.others other.seat n b.own in
      still local old new other b own kept.same_holds kept.same_stacks (λ d e.
      let there = drive_is_online other.opened d e in
      kept.elsewhere d (λ y. has_one_holder old one other d a b (λ z. n (sym z)) y there)
      (λ y. two_seats new.holds after.seat other.seat d a'.own own (λ z. n (sym z ∙ kept.number)) (omega (arith, a'.below d y, a'.enough))
      ((a'.held d).1 y) ((b.held d).1 there)))

  -- seats of those drives are so where more seats were given
  pub still_seated : StaysAtWithMoreSeats local
  still_seated old session_state last at l = grind arith

pub still_troubled : {H Seat : Type 0} (h : HoldsPromise H Seat) → StaysAtUnderTrouble (kinds h of_stacks of_reel)
still_troubled h old session_state on at = grind arith
