-- What a list of stored entries becomes where one is entered, and the base dates that it gives.
use Rattle.dumpdates.proofs.Terms.{◌≡◌, ℕ, zero, suc, ◌+◌, ◌<◌, ◌≤◌, true, false, List, [], ◌∷◌, ◌++◌, length, get_or, take, drop, filter, position, None, refl, sym, ap, ◌∙◌, arith, set, length-append, string_bytes, prefix_len, nat_tests, and_parts}
use Rattle.dumpdates.proofs.Terms.{eqb-true, take_all, drop_all, append-nil, take-append-add, bytes_eq-Decides, DatesEntry, AreEntries, last_second, base_of, is_same, others, entered, plain_stored, plain_all, is_other}
use Rattle.dumpdates.specs.declared.stored.Stored.{Stored}

others_stored : (e : DatesEntry) (xs : List Stored) → plain_all (filter (is_other e) xs) ≡ others e (plain_all xs)
others_stored e [] = refl
others_stored e (x ∷ xs) = grind (arith, others_stored e xs)

-- an entry of the same name and level with the new date is the new entry
pub same_dated : (e : DatesEntry) (x : Stored) → is_same e (plain_stored x) ≡ true
    → record { name = string_bytes x.name; level = x.level; date = e.date } ≡ e
same_dated e x same =
    let both = and_parts _ _ same in rw ((bytes_eq-Decides (string_bytes x.name) e.name).0 both.0, eqb-true x.level e.level both.1) refl

-- the new entry in place of the first of its name and level, and no further ones
pub replaced : (e : DatesEntry) (y d : Stored) → plain_stored y ≡ e → (xs : List Stored) (n : ℕ) → n < length xs
    → is_same e (plain_stored (get_or xs n d)) ≡ true → ((k : ℕ) → k < n → is_same e (plain_stored (get_or xs k d)) ≡ false)
    → plain_all (take (suc n) (set xs n y) ++ filter (is_other e) (drop (suc n) (set xs n y))) ≡ entered (plain_all xs) e
replaced e y d new [] n within here before = absurd (omega arith)
replaced e y d new (x ∷ xs) zero within here before = grind (arith, others_stored e xs)
replaced e y d new (x ∷ xs) (suc n) within here before =
    grind (arith, replaced e y d new xs n (omega arith) here (λ k low. before (suc k) (omega arith)), before 0 (omega arith))

none_same : (e : DatesEntry) (xs : List Stored) → length xs ≤ prefix_len (is_other e) xs
    → (others e (plain_all xs) ≡ plain_all xs) × (entered (plain_all xs) e ≡ plain_all xs ++ e ∷ [])
none_same e [] past = (refl, refl)
none_same e (x ∷ xs) past = grind (arith, none_same e xs)

-- where there is no entry of the same name and level, none is taken out and the new one goes last
pub absent : (e : DatesEntry) (xs : List Stored) → position (λ s. is_same e (plain_stored s)) xs ≡ None
    → (others e (plain_all xs) ≡ plain_all xs) × (entered (plain_all xs) e ≡ plain_all xs ++ e ∷ [])
absent e xs none = none_same e xs (grind (arith, nat_tests))

-- what is kept of a list's end comes after its front
pub cut_behind : (old front back later new : List Stored) (long n kept : ℕ) → long ≡ length old → old ≡ front ++ back → length front ≡ n
    → length later ≡ length back → kept ≤ length later → new ≡ take (n + kept) (take long ((front ++ later) ++ drop (length (front ++ later)) old))
    → new ≡ front ++ take kept later
cut_behind old front back later new long n kept is split first same within e =
    let all : length (front ++ later) ≡ length old = omega (arith, length-append {A = Stored}, ap length split) in
    let whole = take_all long (front ++ later) (omega arith) in
    e ∙ rw (drop_all (length (front ++ later)) old (omega arith), append-nil (front ++ later), whole, sym first) (take-append-add front later kept)

-- what is stored are entries
pub stored_entries : (xs : List Stored) → AreEntries (plain_all xs)
stored_entries [] = tt
stored_entries (x ∷ xs) = (record { name = x.name_in; level = x.level_in; date = x.date_in }, stored_entries xs)

-- no base date of entries is later than the last second
pub base_bound : (entries : List DatesEntry) (name : List ℕ) (level : ℕ) → AreEntries entries → base_of entries name level ≤ last_second
base_bound [] name level h = omega arith
base_bound (e ∷ entries) name level h = grind (arith, base_bound entries name level h.1)
