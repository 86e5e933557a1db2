-- The words of a line, computed byte by byte from its beginning. `Line` defines the same words by
-- whole lines. A word of a line is a row of bytes without spaces and tabs. No public contract needs
-- it.
use Rattle.std.specs.Prelude.{ℕ, if◌then◌else◌, List, take, drop, Option, Some, None}
use Rattle.std.specs.List.{prefix_len, position_or_len, list_all}
use Rattle.dumpdates.specs.Line.{PlainWords, is_space}

-- the bytes after the spaces and tabs at the front
unfoldable pub after_spaces : List ℕ → List ℕ
after_spaces bytes = drop (prefix_len is_space bytes) bytes

-- the first word, which is empty if there is none
unfoldable pub first_word : List ℕ → List ℕ
first_word bytes = take (position_or_len is_space (after_spaces bytes)) (after_spaces bytes)

-- the bytes after the first word
unfoldable pub after_word : List ℕ → List ℕ
after_word bytes = drop (position_or_len is_space (after_spaces bytes)) (after_spaces bytes)

-- the words of a line, if it has at most seven; if it has fewer, the last ones are empty
unfoldable pub words_of : List ℕ → Option PlainWords
words_of line =
    let level = after_word line in
    let weekday = after_word level in
    let month = after_word weekday in
    let day = after_word month in
    let time = after_word day in
    let year = after_word time in
    if list_all is_space (after_word year) then
    Some (record {
      name = first_word line;
      level = first_word level;
      weekday = first_word weekday;
      month = first_word month;
      day = first_word day;
      time = first_word time;
      year = first_word year;
    }) else None
