-- The request that the bytes of a stream begin with, computed byte by byte from their beginning.
-- `RequestParts` defines the same request by the whole texts of requests. No public contract needs
-- it.
use Rattle.std.specs.Prelude.{ℕ, ◌≤◌, ◌+◌, ◌==◌, if◌then◌else◌, nat_lt, List, [], ◌∷◌, length, take, drop, Some, None, Ok, Err}
use Rattle.rmt_wire.specs.Number.{line_feed}
use Rattle.rmt_wire.specs.Parsed.{Parsed, after, number_front}
use Rattle.rmt_wire.specs.Request.{PlainRequest}
use Rattle.rmt_wire.specs.declared.limits.TheConstants.{RECORD_LIMIT}
use Rattle.rmt_wire.specs.Request.PlainRequest.{Open, Close, Write, WriteDropped, Read, Op}
use Rattle.rmt_wire.specs.declared.number.Place.TheVariants as places
use Rattle.rmt_wire.specs.declared.fault.WireFault.TheVariants.{UnknownCommand, LineTooLong}
use Rattle.rmt_wire.specs.declared.request.head.Head.{Head}
use Rattle.rmt_wire.specs.declared.request.head.Head.TheVariants as head

-- how many bytes a line has, if `count` of them came before and the bytes continue it
abbrev pub line_from : ℕ → List ℕ → Parsed ℕ
line_from count [] = Ok None
line_from count (b ∷ bytes) =
    if b == line_feed then Ok (Some count) else (if count == 255 then Err LineTooLong else line_from (count + 1) bytes)

-- how many bytes the line has that the bytes begin with
abbrev pub line_front : List ℕ → Parsed ℕ
line_front bytes = line_from 0 bytes

-- the lines of an open whose device has this length, from its mode line on: a number first, then an
-- end as for any line
unfoldable pub mode_head : ℕ → List ℕ → Parsed Head
mode_head device bytes =
    after (number_front places.Mode bytes) (λ mode.
    after (line_front bytes) (λ len. Ok (Some (head.Open device mode.0 (device + len + 3)))))

-- the lines of an open, from the bytes after `O`
unfoldable pub open_head : List ℕ → Parsed Head
open_head bytes = after (line_front bytes) (λ device. mode_head device (drop (device + 1) bytes))

-- the line of a close, from the bytes after `C`
unfoldable pub close_head : List ℕ → Parsed Head
close_head bytes = after (line_front bytes) (λ len. Ok (Some (head.Close (len + 2))))

-- the line of a write, from the bytes after `W`
unfoldable pub write_head : List ℕ → Parsed Head
write_head bytes = after (number_front places.Line bytes) (λ count. Ok (Some (head.Write count.0 (count.1 + 2))))

-- the line of a read, from the bytes after `R`
unfoldable pub read_head : List ℕ → Parsed Head
read_head bytes = after (number_front places.Line bytes) (λ count. Ok (Some (head.Read count.0 (count.1 + 2))))

-- the lines of an operation with this number and its count of digits, from its second line on
unfoldable pub count_head : ℕ × ℕ → List ℕ → Parsed Head
count_head op bytes = after (number_front places.Line bytes) (λ count. Ok (Some (head.Op op.0 count.0 (op.1 + count.1 + 3))))

-- the lines of an operation, from the bytes after `I`
unfoldable pub op_head : List ℕ → Parsed Head
op_head bytes = after (number_front places.Line bytes) (λ op. count_head op (drop (op.1 + 1) bytes))

-- the lines of a request with this letter, one of `O C W R I`
unfoldable pub letter_head : ℕ → List ℕ → Parsed Head
letter_head letter bytes =
    if letter == 79 then open_head bytes
    else if letter == 67 then close_head bytes
    else if letter == 87 then write_head bytes
    else if letter == 82 then read_head bytes
    else if letter == 73 then op_head bytes
    else Err UnknownCommand

-- the lines of the request that the bytes begin with
unfoldable pub head_of : List ℕ → Parsed Head
head_of [] = Ok None
head_of (letter ∷ bytes) = letter_head letter bytes

-- the lines have at most this many bytes, and those of an open have at least 3 more than its device
abbrev pub FitsIn : ℕ → Head → Type 0
FitsIn most (head.Open device mode len) = (device + 3 ≤ len) × (len ≤ most)
FitsIn most (head.Close len) = len ≤ most
FitsIn most (head.Write count len) = len ≤ most
FitsIn most (head.Read count len) = len ≤ most
FitsIn most (head.Op op count len) = len ≤ most

-- the write whose line has this length, and its whole length, once all of its data are there
abbrev pub written_at : ℕ → ℕ → List ℕ → Parsed (PlainRequest × ℕ)
written_at count len bytes =
    if nat_lt (length bytes) (len + count) then Ok None
    else if nat_lt RECORD_LIMIT count then Ok (Some (WriteDropped count, len + count))
    else Ok (Some (Write (take count (drop len bytes)), len + count))

-- the request that begins with these lines, and its whole length
abbrev pub request_at : List ℕ → Head → Parsed (PlainRequest × ℕ)
request_at bytes (head.Open device mode len) = Ok (Some (Open (take device (drop 1 bytes)) mode, len))
request_at bytes (head.Close len) = Ok (Some (Close, len))
request_at bytes (head.Write count len) = written_at count len bytes
request_at bytes (head.Read count len) = Ok (Some (Read count, len))
request_at bytes (head.Op op count len) = Ok (Some (Op op count, len))

-- the request that the bytes begin with, and its length
unfoldable pub front_of : List ℕ → Parsed (PlainRequest × ℕ)
front_of bytes = after (head_of bytes) (request_at bytes)
