-- What a piece of a copy moves. A contract of `spool` cites it.
use Rattle.std.specs.Prelude.{◌≡◌, ℕ, List, Option, length, unwrap_or}
use Rattle.std.specs.Io.KnownBytes.{Appends, Consumes}

-- Some bytes left the reader, and were appended to the writer. `count` is how many, and none if it
-- was none.
abbrev pub IsMoved : Option (List ℕ) → Option (List ℕ) → Option (List ℕ) → Option (List ℕ) → Option ℕ → Type 0
IsMoved left left' held held' count =
    (bytes : List ℕ) × (length bytes ≡ unwrap_or count 0) × Consumes left left' bytes × Appends held held' bytes
