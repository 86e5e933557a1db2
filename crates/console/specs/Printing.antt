-- Text from others in a form that is safe to print. Public contracts cite it.
use Rattle.std.specs.Prelude.{ℕ, zero, suc, List, [], ◌∷◌, ◌++◌, ◌==◌, length, take, drop, flat_map, chars, encode_utf8, if◌then◌else◌}
use Rattle.std.specs.Char.{is_control}
use Rattle.std.specs.Str.Lossy.{utf8_valid_len, utf8_invalid_len, after_first_chunk}

-- The character `?`.
abbrev pub mark : ℕ
mark = 63

-- `?` for a control character, else the character itself.
abbrev pub plain_char : ℕ → ℕ
plain_char c = if is_control c then mark else c

-- `?` for a control character except a line feed, else the character itself.
abbrev pub plain_line_char : ℕ → ℕ
plain_line_char c = if c == 10 then c else plain_char c

-- The UTF-8 bytes of `plain_char` of a character.
abbrev pub letter_bytes : ℕ → List ℕ
letter_bytes c = encode_utf8 (plain_char c)

-- The UTF-8 bytes of `plain_line_char` of a character.
abbrev pub line_letter_bytes : ℕ → List ℕ
line_letter_bytes c = encode_utf8 (plain_line_char c)

-- UTF-8 bytes with each character replaced by its `plain_char`.
abbrev pub plain_text : List ℕ → List ℕ
plain_text bytes = flat_map letter_bytes (chars bytes)

-- UTF-8 bytes with each character replaced by its `plain_line_char`, so line feeds remain.
abbrev pub plain_lines : List ℕ → List ℕ
plain_lines bytes = flat_map line_letter_bytes (chars bytes)

-- The replacement of so many bytes that are not UTF-8: `?`, or nothing if there are none.
abbrev pub mark_of : ℕ → List ℕ
mark_of count = if count == 0 then [] else mark ∷ []

-- The printed form of these bytes, of at most so many chunks. A chunk is a run of UTF-8 and the
-- invalid sequence after it.
abbrev pub printable_within : ℕ → List ℕ → List ℕ
printable_within zero bytes = []
printable_within (suc k) bytes = if length bytes == 0 then []
    else plain_text (take (utf8_valid_len bytes) bytes)
    ++ (mark_of (utf8_invalid_len (drop (utf8_valid_len bytes) bytes)) ++ printable_within k (after_first_chunk bytes))

-- The printed form of any bytes: each run of UTF-8 as by `plain_text`, and `?` for each invalid
-- sequence.
abbrev pub printable : List ℕ → List ℕ
printable bytes = printable_within (length bytes) bytes
