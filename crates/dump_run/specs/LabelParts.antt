-- The results of the functions that read a label. No public contract needs it.
use Rattle.std.specs.Prelude.{◌≡◌, ◌≢◌, ℕ, List, [], ◌++◌, Option, Some, None}
use Rattle.std.specs.Borrow.{Bor}
use Rattle.dump_run.specs.Run.{plain_run}
use Rattle.dump_run.specs.Label.{PlainLabel, IsLabel, label_lines}

-- the lines of a label
abbrev pub lines_of : PlainLabel → List ℕ
lines_of l = label_lines (plain_run [] l.name l.level l.date l.since 0 0) l.volume l.first

-- the bytes begin with the lines of this label, or with those of none
abbrev pub FindsLabel : List ℕ → Option (PlainLabel × Bor (List ℕ)) → Type 0
FindsLabel bytes (Some p) = IsLabel p.0 × (bytes ≡ lines_of p.0 ++ p.1.now)
FindsLabel bytes None = (l : PlainLabel) (rest : List ℕ) → IsLabel l → bytes ≢ lines_of l ++ rest
