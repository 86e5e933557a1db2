-- Which request some bytes are. Public contracts cite it.
use Rattle.std.specs.Prelude.{ℕ, ◌+◌, ◌-◌, ◌==◌, if◌then◌else◌, nat_lt, List, [], ◌∷◌, length, position, Option, Some, None}
use Rattle.rmt_wire.specs.Number.{line_feed}
use Rattle.rmt_wire.specs.declared.mtio.TheConstants.{MTWEOF, MTFSF, MTBSF, MTFSR, MTBSR, MTREW, MTOFFL}
use Rattle.refusals.specs.declared.request.TapeRequest.{TapeRequest}
use Rattle.refusals.specs.declared.request.TapeRequest.TheVariants.{Open, Rewind, Space, Read, Write, LongWrite, WriteMark, Offline, Nop, Close}

-- The write whose first line feed is at this place among so many bytes after the `W`. It is long if
-- more than 65,536 bytes follow that line feed.
abbrev pub write_at : Option ℕ → ℕ → TapeRequest
write_at None n = Write
write_at (Some at) n = if nat_lt (at + 65537) n then LongWrite else Write

-- The write with these bytes after the `W`.
abbrev pub write_in : List ℕ → TapeRequest
write_in bytes = write_at (position (λ b. b == line_feed) bytes) (length bytes)

-- The operation with this number of mtio.
abbrev pub operation_named : ℕ → TapeRequest
operation_named n = if n == MTWEOF then WriteMark
    else if n == MTFSF then Space
    else if n == MTBSF then Space
    else if n == MTFSR then Space
    else if n == MTBSR then Space
    else if n == MTREW then Rewind
    else if n == MTOFFL then Offline
    else Nop

-- The operation whose number begins with this digit.
abbrev pub operation_in : ℕ → TapeRequest
operation_in d = if nat_lt d 48 then Nop else operation_named (d - 48)

-- The operation with these bytes after the `I`, if there are any.
abbrev pub first_operation : List ℕ → Option TapeRequest
first_operation [] = None
first_operation (d ∷ rest) = Some (operation_in d)

-- The request with this letter and these bytes after it, if it is one of `O C R W I`.
unfoldable pub letter_in : ℕ → List ℕ → Option TapeRequest
letter_in letter rest =
    if letter == 79 then Some Open
    else if letter == 67 then Some Close
    else if letter == 82 then Some Read
    else if letter == 87 then Some (write_in rest)
    else if letter == 73 then first_operation rest
    else None

-- Which request these bytes are.
unfoldable pub request_in : List ℕ → Option TapeRequest
request_in [] = None
request_in (letter ∷ rest) = letter_in letter rest
