-- The spaces after a name, and the digits of a year, as they are written.
use Rattle.dumpdates.proofs.Terms.{◌≡◌, ℕ, ◌-◌, ◌≤◌, min, take, drop, replicate, length, decimal, arith, length-decimal-le, drop-replicate, length-replicate, take_all, space, common_steps}

-- the spaces after a name
pub spaces_left : (n places : ℕ) → take (places - min n places) (drop (min n places) (replicate places space)) ≡ replicate (places - n) space
spaces_left n places = grind (arith, common_steps, drop-replicate, take_all, length-replicate)

-- a year up to 9999 has at most four digits
pub year_digits : (n : ℕ) → n ≤ 9999 → length (decimal n) ≤ 4
year_digits n few = length-decimal-le 4 n (omega arith) (omega arith) (omega arith)
