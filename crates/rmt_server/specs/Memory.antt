-- A session at the drives of one thread, with its reels in memory, and its view. Public contracts
-- cite it.
use Rattle.std.specs.Prelude.{ℕ, Option, Some, None}
use Rattle.tape.specs.Trouble.{TroubledTape}
use Rattle.tape.specs.contracts.troubled.TroubledReelReel.TheImpl.{ghosts as of_reel}
use Rattle.drives.specs.declared.view.View.{View}
use Rattle.drives.specs.Local.{Holders}
use Rattle.drives.specs.ListLibrary.{ListLibrary, library_of}
use Rattle.drives.specs.Opening.{Kinds, kinds}
use Rattle.drives.specs.contracts.list.ListStacksStacks.TheImpl.{ghosts as of_stacks}
use Rattle.drives.specs.contracts.local.LocalHoldsHolds.TheImpl.{ghosts as of_holds}
use Rattle.rmt_server.specs.declared.access.Access.{Access}
use Rattle.rmt_server.specs.declared.session.session_state.Opened.{Opened}
use Rattle.rmt_server.specs.Session.{plain_reel, PlainSession, SessionView, session_view}
use Rattle.rmt_server.specs.Session.PlainSession.{Idle, Offline, Online}
use Rattle.rmt_server.specs.State.{State}

-- a session with drives and reels in memory
abbrev pub MemoryState : Type 0
MemoryState = State Holders ListLibrary View TroubledTape

-- the promises of the holds of one thread, and of stacks and reels in memory
abbrev pub in_memory : Kinds Holders View ListLibrary TroubledTape
in_memory = kinds of_holds of_stacks of_reel

-- the session with this drive open, with this reel or with none
abbrev pub session_with : ℕ → Access → Option TroubledTape → PlainSession
session_with drive access None = Offline drive access
session_with drive access (Some reel) = Online drive access (plain_reel reel.tape reel.capacity)

-- the session in a view, for what is open
abbrev pub session_seen : Option (Opened TroubledTape) → PlainSession
session_seen None = Idle
session_seen (Some device) = session_with device.drive device.access device.reel

-- the view of the stacks and of the open reel
abbrev pub session_view_seen : MemoryState → SessionView
session_view_seen x = session_view (library_of x.drives.stacks) (session_seen x.opened)
