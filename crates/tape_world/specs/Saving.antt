-- The run that is saved outside the client, and the client that resumes it. A count is the record
-- of a volume that was written whole: its number, its first block and its number of blocks. No
-- public contract needs it.
use Rattle.std.specs.Prelude.{◌≡◌, ◌≢◌, ℕ, false, List, Contains, Option, Some, None}
use Rattle.dump_run.specs.Blocks.{listed}
use Rattle.dump_run.specs.Checkpoint.{checkpoint_text}
use Rattle.dump_client.specs.Standing.{IsOver}
use Rattle.dump_client.specs.declared.stage.Answer.{Answer}
use Rattle.dump_client.specs.declared.stage.Answer.TheVariants.{Retry, Abandon}
use Rattle.dump_client.specs.declared.stage.Stage.TheVariants.{Finished, Abandoned}
use Rattle.world_model.specs.World.{Entered, numbered}
use Rattle.tape_world.specs.declared.caller.Begun.{Begun}
use Rattle.tape_world.specs.declared.caller.WorldClient.{WorldClient}
use Rattle.tape_world.specs.declared.caller.KeptRun.{KeptRun}

-- the saved run after the operator's answer, which drops it if it abandons the run
abbrev pub kept_then : Answer → Option KeptRun → Option KeptRun
kept_then Retry kept = kept
kept_then Abandon kept = None

-- `k` has the run of this client, its counts, and the text of its checkpoint
pub record IsKeptOf (c : WorldClient) (k : KeptRun) : Type 0 where
  pub run : k.run ≡ c.number
  pub counts : k.counts.items ≡ c.client.at.counts
  pub text : k.text.items ≡ checkpoint_text c.client.at.run c.client.at.counts

-- the run with this number was entered
abbrev pub IsEnteredIn : List Entered → ℕ → Type 0
IsEnteredIn entered number = (e : Entered) × Contains entered e × (e.run ≡ number)

-- the run is not abandoned, and not both finished and entered
abbrev pub MayKeep : List Entered → WorldClient → Type 0
MayKeep entered c = (c.client.at.stage ≢ Abandoned) × (c.client.at.stage ≡ Finished → IsEnteredIn entered c.number → ⊥)

-- The client resumes the saved run with its counts, and is finished if they cover the run. It reads
-- the payload of the run, without an injected fault.
pub record IsBackWith (begun : List Begun) (k : KeptRun) (c : WorldClient) : Type 0 where
  pub number : c.number ≡ k.run
  pub run : Begun
  pub begun_as : numbered begun k.run ≡ Some run
  pub over : IsOver run.run k.counts.items c.client.at
  pub failures : ℕ
  pub source : c.client.source ≡ listed run.payload.blocks false failures

-- the client resumes the saved run, or there is no client if none is saved
abbrev pub ResumesRunWith : List Begun → Option KeptRun → Option WorldClient → Type 0
ResumesRunWith begun None new = new ≡ None
ResumesRunWith begun (Some k) new = (c : WorldClient) × (new ≡ Some c) × IsBackWith begun k c
