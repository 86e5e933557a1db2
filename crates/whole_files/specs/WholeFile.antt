-- A file that is read as a whole and replaced as a whole. A plain value is what contracts use for a
-- value that the code has in memory. Public contracts cite it.
use Rattle.std.specs.Prelude.{ℕ, List, Option, option_map, Result, Ok, Err, Vec}
use Rattle.std.specs.Global.{Global}
use Rattle.whole_files.specs.declared.whole_file.FileFailed.{FileFailed}

-- the result of a read, as plain values
abbrev pub plain_read : Result (Option (Vec ℕ Global)) FileFailed → Result (Option (List ℕ)) FileFailed
plain_read (Ok bytes) = Ok (option_map (λ held. held.items) bytes)
plain_read (Err failed) = Err failed

-- the contracts of a kind of files: the result of a read, and the result of a replacement
pub record WholeFileKind (F : Type 0) : Type 1 where
  pub gives : F → Result (Option (List ℕ)) FileFailed → F → Type 0
  pub takes : F → List ℕ → Result Unit FileFailed → F → Type 0

-- makes a `WholeFileKind`
abbrev pub whole_file : {F : Type 0} → (F → Result (Option (List ℕ)) FileFailed → F → Type 0)
    → (F → List ℕ → Result Unit FileFailed → F → Type 0) → WholeFileKind F
whole_file gives takes = record { gives = gives; takes = takes }
