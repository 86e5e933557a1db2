-- Facts about each world, beside the headline. A drive's latched reel is the first of its stack: it
-- is in the drive until it is laid back or moved to the bin. A count is the record of a volume that
-- the client wrote whole to a reel. Here `w` is a world, `k` the number of a connection, `s` the
-- server's side of a connection, `c` the client, and `x` a count. Public contracts cite it.
use Rattle.std.specs.Prelude.{◌≡◌, ◌≢◌, ◌⊎◌, ℕ, ◌+◌, ◌<◌, ◌≤◌, ◌++◌, true, List, [], length, map, slice_get, Contains, Some}
use Rattle.drives.specs.TapeLibrary.{drive_at}
use Rattle.rmt_server.specs.ServerState.{ServerConnection}
use Rattle.rmt_server.specs.Session.{PlainReel}
use Rattle.dump_run.specs.declared.count.VolumeCount.{VolumeCount}
use Rattle.dump_client.specs.Standing.{IsAtStep}
use Rattle.dump_client.specs.declared.step.Step.{Step}
use Rattle.dump_client.specs.declared.step.Step.TheVariants.{Close}
use Rattle.world_model.specs.World.{World, AttemptState, Begun, WorldClient, Count, Opening, Writing, numbered}
use Rattle.world_model.specs.Changes.{side_of, HasDump, first_name, counts_of}
use Rattle.world_model.specs.Events.{PlainEvent}
use Rattle.world_model.specs.Events.PlainEvent.{ToClient}
use Rattle.world_model.specs.History.{counts_in}
use Rattle.world_model.specs.Standing.{ReelHoldsJust, IsFirstAway, IsOnlineWith, online_drive_in}
use Rattle.world_model.specs.Headline.{IsOwnOpen, IsNotReopened}
use Rattle.world_model.specs.History.{AreCountedIn}
use Rattle.world_model.specs.Written.{attempt_written, IsQuiet, IsBeforeOffline}

-- On each of the client's connections, as many requests were carried out as were sent, or one
-- fewer.
abbrev pub SentRequests : World → Type 0
SentRequests w = (k : ℕ) (d : AttemptState) → HasDump w k d → (d.sent ≡ d.carried) ⊎ (d.sent ≡ d.carried + 1)

-- A latched reel is the first on the stack of the drive that its session holds, and no other
-- session has it.
pub record LatchedReels (w : World) : Type 0 where
  pub first : (k d : ℕ) (s : ServerConnection) → side_of w.server k ≡ Some s → online_drive_in s.session ≡ Some d
      → IsFirstAway (drive_at w.server.library d).stack × (slice_get w.server.holders d ≡ Some k)
  pub once : (j k d e : ℕ) (s t : ServerConnection) → side_of w.server j ≡ Some s → online_drive_in s.session ≡ Some d → side_of w.server k ≡ Some t
      → online_drive_in t.session ≡ Some e → first_name (drive_at w.server.library d).stack ≡ first_name (drive_at w.server.library e).stack → j ≡ k

-- The reel holds what the attempt wrote, and nothing else. While the attempt's session has that
-- reel online, and MTOFFL was not carried out, the reel is positioned at its end.
pub record IsOnReel (w : World) (k : ℕ) (d : AttemptState) (reel : List ℕ) : Type 0 where
  pub begun : Begun
  pub begun_as : numbered w.begun d.run ≡ Some begun
  pub holds : ReelHoldsJust w.server reel (attempt_written begun.run begun.payload d)
  pub at_end : (s : ServerConnection) (r : PlainReel) → side_of w.server k ≡ Some s → IsOnlineWith s.session r → IsBeforeOffline begun.run d
      → r.tape.after ≡ []

-- Each attempt whose label was accepted is on its reel (`IsOnReel`). This holds while no write of
-- it met a device fault, and no other session has written on the reel since the attempt opened it.
abbrev pub LabelledReels : World → Type 0
LabelledReels w =
    (k : ℕ) (d : AttemptState) (reel : List ℕ) → HasDump w k d → d.label ≡ true → IsQuiet w k d reel → IsOnReel w k d reel

-- If the reel of a count was not reopened, only the count's own session has written on it since
-- that session opened it.
abbrev pub ReelsNotReopened : World → Type 0
ReelsNotReopened w =
    (x : Count) (y : Writing) → Contains w.counts x → Contains w.writings y → (not_reopened : IsNotReopened w x) → y.reel ≡ x.reel
    → not_reopened.0 ≤ y.after → y.connection ≡ x.connection

-- While the client is in an attempt, before its close, its opens for writing are the dump's own.
-- This holds for each count of its run whose volume and first block are in the client's list.
abbrev pub OwnOpens : World → Type 0
OwnOpens w =
    (k i : ℕ) (c : WorldClient) (step : Step) (o : Opening) (x : Count) (v : VolumeCount) → w.own ≡ Some k → w.caller ≡ Some c
    → IsAtStep c.at.stage step → step ≢ Close → numbered w.opens i ≡ Some o → o.connection ≡ k → x.run ≡ c.number
    → Contains c.at.counts v → v.volume ≡ x.volume → v.first ≡ x.first → IsOwnOpen w x i o

-- Each volume of the client's list was counted under the number of its run. Numbers above those of
-- the runs begun have no counts.
pub record ClientsCounts (w : World) : Type 0 where
  pub listed : (c : WorldClient) → w.caller ≡ Some c → AreCountedIn w c.number c.at.counts
  pub none : (run : ℕ) → length w.begun < run → counts_in w.counts run ≡ []

-- The client hears on connection `k`, and the counts of the world grow by exactly what its own list
-- grows by.
pub record IsToldOf (w : World) (k : ℕ) (u : World) : Type 0 where
  pub before : WorldClient
  pub was : w.caller ≡ Some before
  pub after : WorldClient
  pub is : u.caller ≡ Some after
  pub number : after.number ≡ before.number
  pub more : List VolumeCount
  pub list : after.at.counts ≡ before.at.counts ++ more
  pub counts : u.counts ≡ w.counts ++ map (counts_of w before.number k) more

-- Counts grow only when bytes reach the client, and then by exactly what its own list grows by. If
-- the bytes reach a stranger, the client and the counts stay the same.
abbrev pub CountsGrow : World → PlainEvent → World → Type 0
CountsGrow w (ToClient k n) u = ((u.counts ≡ w.counts) × (u.caller ≡ w.caller)) ⊎ IsToldOf w k u
CountsGrow w event u = u.counts ≡ w.counts
