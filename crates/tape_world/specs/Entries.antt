-- The entries on the reels of a world. Public contracts cite it.
use Rattle.std.specs.Prelude.{◌≡◌, ℕ, ◌<◌, if◌then◌else◌, List, [], ◌∷◌, length, slice_get, Option, Some, None}
use Rattle.std.specs.Option.{option_map, option_or, option_and_then}
use Rattle.std.specs.Str.{bytes_eq}
use Rattle.tape.specs.Tape.{PlainEntry, Tape, entries_of}
use Rattle.drives.specs.TapeLibrary.{TapeLibrary, drive_at, slots_in}
use Rattle.drives.specs.Arranging.{reel_named}
use Rattle.rmt_server.specs.Session.{PlainSession}
use Rattle.rmt_server.specs.Session.PlainSession.{Online}
use Rattle.rmt_server.specs.TroubledServe.{drive_in}
use Rattle.rmt_server.specs.ServerState.{ServerState, ServerConnection}
use Rattle.world_model.specs.World.{World}
use Rattle.world_model.specs.Changes.{side_of, first_name}

-- each drive that a live server's side has open exists
abbrev pub AreOpenThere : ServerState → Type 0
AreOpenThere h = (k d : ℕ) (s : ServerConnection) → side_of h k ≡ Some s → drive_in s.session ≡ Some d → d < length h.library.drives

-- the tape that the session has online, if its reel has this name; that reel is the first of the
-- drive's stack
abbrev pub named_tape_in : List ℕ → TapeLibrary → PlainSession → Option Tape
named_tape_in name s (Online drive access reel) =
    if bytes_eq name (first_name (drive_at s drive).stack) then Some reel.tape else None
named_tape_in name s session = None

-- the tape that the server's side has online, if it is live and its reel has this name
abbrev pub tape_online : List ℕ → TapeLibrary → Option ServerConnection → Option Tape
tape_online name s None = None
tape_online name s (Some x) = named_tape_in name s x.session

-- the tape of this name that the first of the live server's sides has online, if one has
abbrev pub first_tape_online : List ℕ → TapeLibrary → List (Option ServerConnection) → Option Tape
first_tape_online name s [] = None
first_tape_online name s (side ∷ sides) = option_or (tape_online name s side) (first_tape_online name s sides)

-- the entries of the reel of this name, which is on a stack, in the bin or online, if there is one
abbrev pub entries_on : ServerState → List ℕ → Option (List PlainEntry)
entries_on h name =
    option_or (option_map (λ r. r.entries) (reel_named name (slots_in h.library)))
    (option_map entries_of (first_tape_online name h.library h.sides))

-- entry `i` of the reel of this name, from 0
abbrev pub entry_on : World → List ℕ → ℕ → Option PlainEntry
entry_on w name i = option_and_then (λ entries. slice_get entries i) (entries_on w.server name)
