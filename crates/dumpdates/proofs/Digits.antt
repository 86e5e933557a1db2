-- Numbers of a few digits.
use Rattle.dumpdates.proofs.Terms.{◌≡◌, ℕ, ◌-◌, ◌^◌, ◌<◌, ◌≤◌, List, length, take, arith, nat_tests, length-take-le, numerals_by_value, tells_digits, digits_value_short, digit_value, IsInRange, AllDigits, digits_value}

-- so many digits are less than that power of ten
pub below_power : (ds : List ℕ) (k : ℕ) → AllDigits 10 ds → length ds ≤ k → digits_value 10 ds < 10 ^ k
below_power ds k d few = digits_value_short (numerals_by_value (AllDigits 10) tells_digits) ds k d few

pub digit_known : (d : ℕ) → IsInRange 48 57 d → (digit_value d ≡ d - 48) × (digit_value d < 10)
digit_known d h = let low = h.0 in let high = h.1 in (grind (arith, nat_tests), grind (arith, nat_tests))

-- the digits before another byte, of at most four bytes, have a value below 1000
pub few_digits : (text : List ℕ) (i : ℕ) → AllDigits 10 (take i text) → i < length text → length text ≤ 4 → digits_value 10 (take i text) < 1000
few_digits text i digits within few = below_power (take i text) 3 digits (omega (arith, length-take-le i text (omega arith)))
