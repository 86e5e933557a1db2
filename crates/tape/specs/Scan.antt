-- The entries of a record file, one after the other. No public contract needs it.
use Rattle.std.specs.Prelude.{◌≡◌, ℕ, List, ◌++◌, Some}
use Rattle.std.specs.List.{slice_get}
use Rattle.tape.specs.Tape.{PlainEntry, IsTapeEntry}
use Rattle.tape.specs.List.{bytes_of}
use Rattle.tape.specs.RecordFile.{image_of, entries_in}

-- The bytes begin with the image of an entry. `bytes` are the bytes of that entry, and `behind` is
-- what follows the image.
pub record IsFirst (file bytes behind : List ℕ) : Type 0 where
  pub entry : PlainEntry
  pub whole : file ≡ image_of entry ++ behind
  pub bytes_is : bytes ≡ bytes_of entry
  pub lawful : IsTapeEntry entry

-- These are the bytes of the file's entry of this number, counted from 0.
pub record IsNth (file : List ℕ) (i : ℕ) (bytes : List ℕ) : Type 0 where
  pub entry : PlainEntry
  pub at : slice_get (entries_in file) i ≡ Some entry
  pub bytes_is : bytes ≡ bytes_of entry
