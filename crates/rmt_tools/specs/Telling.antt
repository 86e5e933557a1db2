-- A peer in memory, and its log of what passed. Public contracts cite it.
use Rattle.std.specs.Prelude.{◌≡◌, ℕ, ◌-◌, ◌^◌, min, Bool, true, false, List, [], ◌++◌, replicate, None}
use Rattle.tape.specs.Trouble.{TroubledTape}
use Rattle.drives.specs.declared.table.DriveTable.{DriveTable}
use Rattle.drives.specs.declared.view.View.{View}
use Rattle.drives.specs.ListLibrary.{ListLibrary}
use Rattle.drives.specs.Local.{Holders}
use Rattle.rmt_server.specs.declared.session.session_state.SessionState.{SessionState}
use Rattle.rmt_server.specs.Memory.{MemoryState, in_memory}
use Rattle.rmt_server.specs.Opening.{IsClosed}
use Rattle.rmt_server.specs.State.{state}
use Rattle.remote_tape.specs.declared.peer.Passed.{Passed}
use Rattle.remote_tape.specs.declared.peer.Passed.TheVariants.{Ended}

-- the log of a peer: what passed, and after it so many `Ended` events
pub record KeptLog : Type 0 where
  pub passed : List Passed
  pub ends : ℕ

-- makes a `KeptLog`
abbrev pub kept_log : List Passed → ℕ → KeptLog
kept_log passed ends = record { passed = passed; ends = ends }

-- the log contains this; the ends after what passed are counted up to the greatest u64
abbrev pub IsLogOf : KeptLog → List Passed → Type 0
IsLogOf kept log = (n : ℕ) × (log ≡ kept.passed ++ replicate n Ended) × (kept.ends ≡ min n (2 ^ 64 - 1))

-- these events if true, else none
abbrev pub events_if : Bool → List Passed → List Passed
events_if true passed = passed
events_if false passed = []

-- the drives of a peer in memory
abbrev pub Drives : Type 0
Drives = DriveTable Holders ListLibrary View TroubledTape

-- the state of a session at these drives
abbrev pub Seated : Type 0
Seated = SessionState View TroubledTape

-- the log, the drives, and the session at them
pub record MemoryPeerHeld : Type 0 where
  pub log : KeptLog
  pub drives : Drives
  pub session : Seated

-- a session with nothing open, at drives with the same reels and holders as `given`
abbrev pub IsMadeWith : Drives → Drives → Seated → Type 0
IsMadeWith given drives session = (drives.stacks ≡ given.stacks) × (drives.holds.numbers ≡ given.holds.numbers) × (session.opened ≡ None)

-- a peer with nothing open, at drives with the same reels and holders as `given`
abbrev pub IsMadeOf : Drives → MemoryPeerHeld → Type 0
IsMadeOf given p = IsMadeWith given p.drives p.session

-- the drives after what was open is closed
abbrev pub IsAfterEnd : Drives → Seated → Drives → Type 0
IsAfterEnd drives session left = (after : MemoryState) × IsClosed in_memory (state drives session) after × (left ≡ after.drives)

-- what the session `was` had open at the drives `old` is closed; `drives` has the reels and the
-- holders that are left after that
abbrev pub IsCleared : Drives → Seated → Drives → Type 0
IsCleared old was drives = (left : Drives) × IsAfterEnd old was left × (drives.stacks ≡ left.stacks) × (drives.holds.numbers ≡ left.holds.numbers)

-- what the peer had open is closed, and `left` are its drives after that
abbrev pub IsTakenApart : MemoryPeerHeld → Drives → Type 0
IsTakenApart p left = IsAfterEnd p.drives p.session left
