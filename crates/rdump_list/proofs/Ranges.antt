-- The volumes that are missing, from the numbers of those that are there.
use Rattle.std.proofs.Common.{◌≡◌, ◌⊎◌, ◌↔◌, inl, inr, ℕ, suc, ◌+◌, ◌-◌, ◌<◌, ◌≤◌, min, List, [], ◌∷◌, ◌++◌, take, get_or, length, sym, subst, take-suc, arith}
use Rattle.std.specs.Prelude.{Any, Contains}
use mathlib.Core.Logic.{⊎_elim}
use Rattle.std.proofs.lemmas.Bool.{cases_lt}
use Rattle.std.proofs.lemmas.Grind.{common_steps}
use Rattle.std.proofs.lemmas.List.Elements.{All-push, Contains-push_cases, Contains-append_left, Contains-push}
use Rattle.std.proofs.lemmas.List.Quantifiers.{Any-push}
use Rattle.rdump_list.specs.DumpFound.{AreMissing, IsGap, IsIn, IsLeastFrom}
use Rattle.rdump_list.specs.declared.missing.VolumeRange.{VolumeRange}

module _ {X : Type 0} (P : X → Type 0) where
  pub any_left : (xs : List X) (y : X) → Any P xs → Any P (xs ++ y ∷ [])
  any_left xs y (k, x, within, is, holds) = (k, x, grind (arith, common_steps), grind (arith, common_steps), holds)

  pub any_cases : (xs : List X) (y : X) → Any P (xs ++ y ∷ []) → Any P xs ⊎ P y
  any_cases xs y (k, x, within, is, holds) = ⊎_elim
      (λ lt. inl (k, x, lt, grind (arith, common_steps), holds))
      (λ ge. let same : x ≡ y = grind (arith, common_steps) in inr (subst P same holds))
      (cases_lt k (length xs))

-- one more element
pub next_take : {X : Type 0} (xs : List X) (i : ℕ) (d : X) → i < length xs → take (i + 1) xs ≡ take i xs ++ get_or xs i d ∷ []
next_take {X} xs i d within =
    let next : suc i ≡ i + 1 = omega arith in
    subst (λ (n : ℕ). take n xs ≡ take i xs ++ get_or xs i d ∷ []) next (take-suc xs i d within)

-- a range is a gap also among more volumes
gap_in : (There : ℕ → Type 0) (some more : ℕ) (r : VolumeRange) → some ≤ more → IsGap There some r → IsGap There more r
gap_in There some more r le gap = record {
  begins = gap.begins;
  ends = omega (arith, gap.ends, le);
  filled = gap.filled;
  missing = gap.missing;
}

module _ (there : List ℕ) (done volumes next : ℕ) (ranges : List VolumeRange) (missing : AreMissing (Contains there) done ranges)
    (least : IsLeastFrom there (done + 1) volumes next) (lt : done < volumes) where
  -- no volume from `done + 1` to before `next` is there
  pub with_gap : (r : VolumeRange) → done + 1 < next → r.first ≡ done + 1 → r.last ≡ next - 1
      → AreMissing (Contains there) (min next volumes) (ranges ++ r ∷ [])
  with_gap r gap first last = record {
    gaps = All-push (IsGap (Contains there) (min next volumes)) ranges r
        (λ k d within. gap_in (Contains there) done (min next volumes) (get_or ranges k d) (omega arith) (missing.gaps k d within))
        (record {
          begins = omega (arith, first);
          ends = omega (arith, last, least.limit);
          filled = omega (arith, first, last);
          missing = λ n is_in has. least.least n (omega (arith, first, is_in.0)) (omega (arith, last, is_in.1, gap)) has;
        });
    rest = λ n from to. ⊎_elim
        (λ before. ⊎_elim (λ has. inl has) (λ old. inr (any_left (IsIn n) ranges r old)) (missing.rest n from (omega (arith, before))))
        (λ after. ⊎_elim
        (λ below. inr (Any-push (IsIn n) ranges r (omega (arith, first, after), omega (arith, last, below))))
        (λ above. let is : next ≡ n = omega (arith, above, to) in inl (subst (Contains there) is (least.has (omega (arith, above, to)))))
        (cases_lt n next))
        (cases_lt n (done + 1));
  }

  -- the next volume is there
  pub without_gap : next ≤ done + 1 → AreMissing (Contains there) (min next volumes) ranges
  without_gap none = record {
    gaps = λ k d within. gap_in (Contains there) done (min next volumes) (get_or ranges k d) (omega (arith, least.reached)) (missing.gaps k d within);
    rest = λ n from to. ⊎_elim
        (λ before. missing.rest n from (omega (arith, before)))
        (λ after. let is : next ≡ n = omega (arith, after, to, none) in inl (subst (Contains there) is (least.has (omega (arith, none, lt)))))
        (cases_lt n (done + 1));
  }

-- one more number was looked at
module _ (there : List ℕ) (i from volumes next : ℕ) (within : i < length there) (least : IsLeastFrom (take i there) from volumes next) where
  cases : (n : ℕ) → Contains (take (i + 1) there) n → Contains (take i there) n ⊎ (get_or there i 0 ≡ n)
  cases n has = Contains-push_cases (take i there) (get_or there i 0) n (subst (λ xs. Contains xs n) (next_take there i 0 within) has)

  more : (n : ℕ) → Contains (take i there) n → Contains (take (i + 1) there) n
  more n has = subst (λ xs. Contains xs n) (sym (next_take there i 0 within)) (Contains-append_left (take i there) (get_or there i 0 ∷ []) n has)

  last : Contains (take (i + 1) there) (get_or there i 0)
  last = subst (λ xs. Contains xs (get_or there i 0)) (sym (next_take there i 0 within)) (Contains-push (take i there) (get_or there i 0))

  pub taken : from ≤ get_or there i 0 → get_or there i 0 < next → IsLeastFrom (take (i + 1) there) from volumes (get_or there i 0)
  taken reached below = record {
    reached = reached;
    limit = omega (arith, below, least.limit);
    has = λ small. last;
    least = λ n reaches lt has. ⊎_elim
        (λ before. least.least n reaches (omega (arith, lt, below)) before)
        (λ is. omega (arith, is, lt))
        (cases n has);
  }

  pub passed : (from ≤ get_or there i 0 → next ≤ get_or there i 0) → IsLeastFrom (take (i + 1) there) from volumes next
  passed above = record {
    reached = least.reached;
    limit = least.limit;
    has = λ small. more next (least.has small);
    least = λ n reaches lt has. ⊎_elim
        (λ before. least.least n reaches lt before)
        (λ is. let far = above (omega (arith, is, reaches)) in omega (arith, is, lt, far))
        (cases n has);
  }

-- the same volumes are there by the numbers and by the reels
pub same_missing : (There Has : ℕ → Type 0) (volumes : ℕ) (ranges : List VolumeRange) → ((n : ℕ) → There n ↔ Has n)
    → AreMissing There volumes ranges → AreMissing Has volumes ranges
same_missing There Has volumes ranges same missing = record {
  gaps = λ k d within. (let gap = missing.gaps k d within in record {
    begins = gap.begins;
    ends = gap.ends;
    filled = gap.filled;
    missing = λ n is_in has. gap.missing n is_in ((same n).1 has);
  });
  rest = λ n from to. ⊎_elim (λ has. inl ((same n).0 has)) (λ is_in. inr is_in) (missing.rest n from to);
}
