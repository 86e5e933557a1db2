-- Cutting a text at its first byte of a given value. No public contract cites this.
use Rattle.std.specs.Prelude.{◌≡◌, ℕ, ◌+◌, List, ◌∷◌, ◌++◌, length, Option, Some, None}
use Rattle.std.specs.Borrow.{Bor}

-- `before` is the text before the first cut byte, and `behind` the text after it. `behind` is
-- `None` if the byte does not occur.
abbrev pub IsCut : ℕ → List ℕ → List ℕ → Option (Bor (List ℕ)) → Type 0
IsCut byte text before None = before ≡ text
IsCut byte text before (Some behind) = before ++ byte ∷ behind.now ≡ text

-- the size of what is still to be cut: its length and 1, or 0 after the last part
abbrev pub left_in : Option (Bor (List ℕ)) → ℕ
left_in None = 0
left_in (Some text) = length text.now + 1
