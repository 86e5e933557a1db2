-- The drives that a seat holds.
use Rattle.std.proofs.Common.{◌≡◌, ℕ, ◌+◌, ◌<◌, ◌≤◌, ◌↔◌, Bool, true, false, IsTrue, List, length, replicate, set, get_or, slice_index, slice_set, slice_index_or, arith, rules}
use Rattle.std.proofs.lemmas.Bool.Decides.{nat_tests}
use Rattle.drives.proofs.Names.{common_steps, set-set, set-get_or, get_or-replicate, get_or_default, length-replicate, DRIVE_LIMIT, View, LastStep, moved, given, taken, has}
use Rattle.drives.proofs.Names.{newcomer, Holders, holders, AreHolders, IsSeatOf, IsHeldBy, holder_after_take, holder_after_give}

-- a drive that was not held is taken and given back
pub taken_and_given : (held : List Bool) (d : ℕ) → slice_index_or held d false ≡ false → slice_set (slice_set held d true) d false ≡ held
taken_and_given held d e = grind (arith, set-set held d true false, set-get_or held d false)

-- a seat of a number that was not given before
pub newcomer_is_seat : (numbers : List ℕ) (last : ℕ) → AreHolders numbers last → IsSeatOf (holders numbers (last + 1)) (newcomer (last + 1))
newcomer_is_seat numbers last h = record {
  numbered = omega arith;
  made = omega arith;
  marks = search rules;
  agrees = λ d l.
      let marks : slice_index_or (replicate DRIVE_LIMIT false) d false ≡ false = get_or-replicate DRIVE_LIMIT d false false (let few : length numbers ≤ DRIVE_LIMIT = h.1 in omega arith) in
      let below : slice_index numbers d ≤ last = h.2 d l in
      grind (arith, common_steps);
}

-- after a take that found 0 and a give of that drive, the seat holds what it held
pub given_back : (old mid new : View) (d : ℕ) → new ≡ given mid d → mid ≡ taken old d 0 → has old d ≡ false → new.held ≡ old.held
given_back old mid new d g t h = grind (arith, taken_and_given old.held d h)

-- what a seat that reads the number at a drive knows of it
pub record IsRead (now : Holders) (v : View) (d n : ℕ) : Type 0 where
  pub known : n ≤ now.last
  pub mine : n ≡ v.number ↔ IsTrue (has v d)
  pub found : (m : ℕ) → IsHeldBy now d m → n ≡ m

pub read_is : {all now : Holders} {v : View} {d n : ℕ} → all ≡ now → AreHolders all.numbers all.last → IsSeatOf now v → d < length now.numbers → n ≡ get_or all.numbers d n → IsRead now v d n
read_is {all} {now} {v} {d} {n} same h seat l e =
    let is : slice_index now.numbers d ≡ n = grind (arith, get_or_default now.numbers d n 0 l) in
    record {
      known = grind (arith, h.2 d);
      mine = grind (arith, nat_tests, seat.agrees d l);
      found = λ m held. grind arith;
    }

-- a take that finds a holder changes none
pub busy_told : {now : Holders} {v : View} {d n : ℕ} → IsRead now v d n → (n ≡ 0 → ⊥) → (e m : ℕ) → IsHeldBy now e m → IsHeldBy now e (holder_after_take v.number d e m)
busy_told read some e m held = grind (arith, nat_tests, read.found m)

-- the seat holds what it held
pub stays_seat : {all : Holders} {v v' : View} {step : LastStep} → IsSeatOf all v → v' ≡ moved v v.held step → IsSeatOf all v'
stays_seat seat e = rw e (record { numbered = seat.numbered; made = seat.made; marks = seat.marks; agrees = seat.agrees })

-- a drive that was given back is free
pub given_told : {all now : Holders} (drive d n : ℕ) → all ≡ now → IsHeldBy now d n → IsHeldBy (holders (set all.numbers drive 0) all.last) d (holder_after_give drive d n)
given_told drive d n same held = grind (arith, common_steps, nat_tests)

pub given_seat : {all now : Holders} {v v' : View} {step : LastStep} (drive : ℕ) → all ≡ now → IsSeatOf now v → v' ≡ moved v (slice_set v.held drive false) step → IsSeatOf (holders (set all.numbers drive 0) all.last) v'
given_seat {all} {now} {v} drive same seat e = rw e (record { numbered = seat.numbered; made = grind arith; marks = grind (arith, common_steps, seat.marks); agrees = λ d l. grind (arith, common_steps, nat_tests, seat.agrees d) })

-- drives that are all free
pub none_held : (numbers : List ℕ) (drives : ℕ) → 1 ≤ drives → drives ≤ DRIVE_LIMIT → numbers ≡ replicate drives 0 → AreHolders numbers 0
none_held numbers drives some few e = rw e (grind (arith, common_steps), grind (arith, common_steps), λ d l. grind (arith, get_or-replicate {A = ℕ} drives d 0 0, length-replicate {A = ℕ} drives 0))
