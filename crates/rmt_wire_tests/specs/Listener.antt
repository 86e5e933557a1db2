-- What a test knows about a reader of replies without reading it. Only tests need it.
use Rattle.std.specs.Prelude.{◌≡◌, ℕ, Bool, false, List, Option, None}
use Rattle.rmt_wire.specs.Reply.{Wanted}
use Rattle.rmt_wire.specs.ReplyReader.{ReplyHeld, ReplyUnread}

-- the reader has some bytes unread, and waits for a reply only if `is_waiting` is true
abbrev pub WaitsOnlyIf : Bool → ReplyHeld → Type 0
WaitsOnlyIf is_waiting held =
    (wanted : Option Wanted) × (bytes : List ℕ) × ReplyUnread held wanted bytes × (is_waiting ≡ false → wanted ≡ None)
