-- The name of a copy. Public contracts cite it.
use Rattle.std.specs.Prelude.{ℕ, ◌==◌, if◌then◌else◌, List, [], ◌∷◌, ◌++◌, codes, decimal, flat_map}
use Rattle.dump_run.specs.Label.{PlainLabel}

-- the codes of `/`, `%` and `.`
abbrev pub slash : ℕ
slash = 47

abbrev pub percent : ℕ
percent = 37

abbrev pub dot : ℕ
dot = 46

-- a byte of a name, as the name of a copy has it: `/` is written `%2F`, and `%` is written `%25`
abbrev pub escaped : ℕ → List ℕ
escaped byte = if byte == slash then codes "%2F" else if byte == percent then codes "%25" else byte ∷ []

-- a name without `/`, and with a leading dot written as `%2E`
abbrev pub escaped_name : List ℕ → List ℕ
escaped_name [] = []
escaped_name (byte ∷ name) = (if byte == dot then codes "%2E" else escaped byte) ++ flat_map escaped name

-- a dot and a number
abbrev pub numbered : ℕ → List ℕ
numbered n = codes "." ++ decimal n

-- the name of the copy of a volume: the escaped name of the dump, the level, the date and the number
-- of the volume, with dots between them
abbrev pub copy_name : PlainLabel → List ℕ
copy_name l = escaped_name l.name ++ (numbered l.level ++ (numbered l.date ++ numbered l.volume))
