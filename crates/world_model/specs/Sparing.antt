-- How the headline is proved: why no other attempt of the same run writes on the reel of a count.
-- No statement of the headline uses these definitions. A count is the record of a volume that the
-- client wrote whole to a reel. The look is the read of the reel's first record, before anything is
-- written. Here `w` is a world, `k` the number of a connection, `l` a connection, `d` the attempt
-- on a connection, `c` the client, and `x` a count. Public contracts depend on it (through Kept).
use Rattle.std.specs.Prelude.{◌≡◌, ◌≢◌, ℕ, ◌<◌, ◌≤◌, List, length, Contains, Some}
use Rattle.dump_client.specs.Standing.{Standing, FedAt, IsAtStep}
use Rattle.dump_client.specs.Client.{HasFedAt}
use Rattle.dump_run.specs.declared.count.VolumeCount.{VolumeCount}
use Rattle.dump_client.specs.declared.step.Step.{Step}
use Rattle.dump_client.specs.declared.step.Step.TheVariants.{Operation, Close}
use Rattle.dump_client.specs.declared.step.TapeOp.TheVariants.{RewindAgain}
use Rattle.dump_client.specs.declared.stage.Stage.TheVariants.{ToSend}
use Rattle.dump_client.specs.declared.stage.Progress.{Progress}
use Rattle.world_model.specs.World.{World, Connection, AttemptState, WorldClient, Count, Opening, Writing, numbered}
use Rattle.world_model.specs.Changes.{HasDump, connection_of, opening}
use Rattle.world_model.specs.Headline.{IsNotReopened}

-- connection `k` opened the count's reel for writing after the count's own connection did
abbrev pub HasOpenedSince : World → Count → ℕ → Type 0
HasOpenedSince w x k =
    (i m : ℕ) × (numbered w.opens i ≡ Some (opening x.connection x.reel)) × (i < m) × (numbered w.opens m ≡ Some (opening k x.reel))

-- how many requests an attempt sends up to its look at the label, with the look: the open, the
-- rewind and the read
abbrev pub looked_requests : ℕ
looked_requests = 3

-- On each of the client's connections that wrote, more than `looked_requests` requests were carried
-- out.
abbrev pub AreLateWriters : World → Type 0
AreLateWriters w = (y : Writing) (d : AttemptState) → Contains w.writings y → HasDump w y.connection d → looked_requests < d.carried

-- Suppose that the reel of a count was not reopened. Then each of the client's connections that
-- opened it after the count's own sent at most `looked_requests` requests.
abbrev pub AreStopped : World → Type 0
AreStopped w =
    (x : Count) (k : ℕ) (d : AttemptState) → Contains w.counts x → IsNotReopened w x → HasOpenedSince w x k → HasDump w k d
    → d.sent ≤ looked_requests

-- While the client is in an attempt, before its close, its list stays the same. Each open for
-- writing, from that of the attempt's connection on, has that list.
abbrev pub AreListedNow : World → Type 0
AreListedNow w =
    (k i m : ℕ) (c : WorldClient) (step : Step) (o : Opening) (list : List VolumeCount) → w.own ≡ Some k → w.caller ≡ Some c
    → IsAtStep c.at.stage step → step ≢ Close → numbered w.opens i ≡ Some o → o.connection ≡ k → i ≤ m
    → numbered w.lists m ≡ Some list → list ≡ c.at.counts

-- The client does not continue past the look if it has opened the reel of a count that was not
-- reopened. This holds however much of the look's reply it has heard.
abbrev pub HasLooked : World → Type 0
HasLooked w =
    (k : ℕ) (l : Connection) (c : WorldClient) (fed : List ℕ) (progress : Progress) (new : Standing) (x : Count) → w.own ≡ Some k
    → connection_of w k ≡ Some l → w.caller ≡ Some c → HasFedAt c.at.stage c.reader fed → FedAt c.at.stage c.at fed l.back progress new
    → new.stage ≡ ToSend (Operation RewindAgain) → Contains w.counts x → IsNotReopened w x → HasOpenedSince w x k → ⊥

-- These facts keep other attempts of the run from writing on the reel of a count. Each opening has
-- its list.
pub record AreNotReopened (w : World) : Type 0 where
  pub paired : length w.lists ≡ length w.opens
  pub late : AreLateWriters w
  pub stopped : AreStopped w
  pub listed : AreListedNow w
  pub looked : HasLooked w
