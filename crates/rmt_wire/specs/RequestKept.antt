-- The buffer of a reader of requests. No public contract needs it.
use Rattle.std.specs.Prelude.{◌≡◌, ◌<◌, ◌+◌, ◌==◌, if◌then◌else◌, nat_lt, ℕ, List, [], ◌∷◌, length, Option, Some, None, Ok, Err}
use Rattle.rmt_wire.specs.declared.limits.TheConstants.{READER_LIMIT}
use Rattle.rmt_wire.specs.declared.limits.TheConstants.{RECORD_LIMIT}
use Rattle.rmt_wire.specs.declared.number.Place.TheVariants as places
use Rattle.rmt_wire.specs.Parsed.{Parsed, number_front}
use Rattle.rmt_wire.specs.RequestReader.{RequestHeld, dropped_line, IsDropped, discardable_at, Unread, taken_of}

-- the length of a write's line with its letter and line feed, and its count, if the line is
-- complete
abbrev pub line_if_seen : Parsed (ℕ × ℕ) → Option (ℕ × ℕ)
line_if_seen (Ok (Some count)) = Some (count.1 + 2, count.0)
line_if_seen (Ok None) = None
line_if_seen (Err fault) = None

-- if the bytes begin with a write whose line is complete, the length of that line with its letter
-- and line feed, and its count
unfoldable pub write_line : List ℕ → Option (ℕ × ℕ)
write_line [] = None
write_line (letter ∷ bytes) = if letter == 87 then line_if_seen (number_front places.Line bytes) else None

-- the line, if it is that of a write to be dropped
abbrev pub if_dropped : Option (ℕ × ℕ) → Option (ℕ × ℕ)
if_dropped None = None
if_dropped (Some line) = if nat_lt RECORD_LIMIT line.1 then Some line else None

-- if a line is known, the bytes begin with it
abbrev pub IsKnown : Option (ℕ × ℕ) → List ℕ → Type 0
IsKnown None bytes = Unit {0}
IsKnown (Some line) bytes = write_line bytes ≡ Some line

-- how many of the bytes kept are data of a dropped write that can be discarded
abbrev pub idle : RequestHeld → ℕ
idle h = discardable_at (dropped_line h.kept) (length h.kept) h.dropped

-- if bytes can be discarded, the reader is not full, so that there is room before they are
abbrev pub HasRoom : RequestHeld → Type 0
HasRoom h = 0 < idle h → length h.kept < READER_LIMIT

-- all bytes that could be discarded were, and the unread bytes are the same
pub record HasDiscarded (old new : RequestHeld) : Type 0 where
  pub at_line : IsDropped (dropped_line new.kept) new.dropped
  pub none_idle : idle new ≡ 0
  pub unread : (bytes : List ℕ) → Unread old bytes → Unread new bytes
  pub taken : (bytes : List ℕ) → Unread old bytes → length new.kept ≡ taken_of bytes
