-- Lists of bytes that are compared piece by piece.
use Rattle.std.proofs.Common.{◌≡◌, ℕ, ◌+◌, ◌≤◌, List, take, drop, length, sym, ◌∙◌, take-add}
use Rattle.std.proofs.lemmas.List.{take_all}

-- one more piece is equal
pub more_equal : (bytes others : List ℕ) (at n : ℕ) → take at others ≡ take at bytes → take n (drop at others) ≡ take n (drop at bytes)
    → take (at + n) others ≡ take (at + n) bytes
more_equal bytes others at n before now = let x = take-add at n others in let y = take-add at n bytes in cc

-- all pieces are equal
pub all_equal : (bytes others : List ℕ) (at : ℕ) → length bytes ≤ at → length others ≤ at → take at others ≡ take at bytes → others ≡ bytes
all_equal bytes others at few less are = sym (take_all at others less) ∙ are ∙ take_all at bytes few
