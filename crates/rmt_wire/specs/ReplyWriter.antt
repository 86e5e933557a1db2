-- What a writer of replies has written to its stream. Public contracts cite it.
use Rattle.std.specs.Prelude.{ℕ, Option, List, take}
use Rattle.std.specs.Io.KnownBytes.{Appends}

-- a beginning of the text was written: none of it, some or all
abbrev pub AppendsBeginning : Option (List ℕ) → Option (List ℕ) → List ℕ → Type 0
AppendsBeginning old new text = (n : ℕ) × Appends old new (take n text)
