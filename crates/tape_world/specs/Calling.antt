-- The effect of calls on the client, if there is one. No public contract needs it.
use Rattle.std.specs.Prelude.{◌≡◌, ℕ, List, [], Option, Some, None, Result, Ok, Err}
use Rattle.dump_run.specs.Run.{PlainRun}
use Rattle.dump_run.specs.Blocks.{cut_blocks}
use Rattle.dump_client.specs.Standing.{Standing, standing, checkpoint_of, AnsweredAt, CutAt}
use Rattle.dump_client.specs.Client.{HasFedAt, IsPayload}
use Rattle.dump_client.specs.declared.step.Step.TheVariants.{Open}
use Rattle.dump_client.specs.declared.stage.Stage.TheVariants.{Ready, ToSend}
use Rattle.dump_client.specs.declared.stage.Answer.{Answer}
use Rattle.dump_client.specs.declared.stage.Progress.{Progress}
use Rattle.dump_client.specs.declared.stage.Progress.TheVariants.{Failed}
use Rattle.dump_client.specs.declared.fault.AttemptFault.{AttemptFault}
use Rattle.dump_client.specs.declared.fault.StartFault.{StartFault}
use Rattle.world_model.specs.World.{Connection, AttemptState}
use Rattle.world_model.specs.Changes.{changed, without_peer}
use Rattle.rmt_wire.specs.ReplyReader.{reply_held}
use Rattle.world_host.specs.Attempt.{new_dumping}
use Rattle.tape_world.specs.declared.stop.EventStop.{EventStop}
use Rattle.tape_world.specs.declared.stop.EventStop.TheVariants.{OutOfMemory}
use Rattle.tape_world.specs.declared.caller.Begun.{Begun}
use Rattle.tape_world.specs.declared.caller.WorldClient.{WorldClient}

-- `d` is a client of the same run as `c`, with the same payload
pub record IsSameRun (c d : WorldClient) : Type 0 where
  pub number : d.number ≡ c.number
  pub source : d.client.source ≡ c.client.source

-- The connections after the client left connection `k`. They are unchanged if the client has no
-- connection (None).
abbrev pub over_own : Option ℕ → List Connection → List Connection
over_own None connections = connections
over_own (Some k) connections = changed without_peer connections k

-- the client, if there is one, takes the operator's answer
abbrev pub ClientAnswers : Option WorldClient → Answer → Option WorldClient → Type 0
ClientAnswers None answer new = new ≡ None
ClientAnswers (Some c) answer new =
    (d : WorldClient) × (result : Result Unit StartFault) × (new ≡ Some d) × IsSameRun c d
    × AnsweredAt c.client.at.stage c.client.at answer result d.client.at

-- the volume and the cause, if a call made the attempt fail
abbrev pub failure_of : Standing → Progress → Option (ℕ × AttemptFault)
failure_of at (Failed fault) = Some ((checkpoint_of at.counts).0, fault)
failure_of at progress = None

-- the client, if there is one, sees the end of its connection, and `failure` is what that made fail
abbrev pub ClientSeesEnd : Option WorldClient → Option (ℕ × AttemptFault) → Option WorldClient → Type 0
ClientSeesEnd None failure new = new ≡ None
ClientSeesEnd (Some c) failure new =
    (d : WorldClient) × (progress : Progress) × (new ≡ Some d) × IsSameRun c d × CutAt c.client.at.stage c.client.at progress d.client.at
    × HasFedAt d.client.at.stage d.client.reader [] × (failure ≡ failure_of d.client.at progress)

-- `b` is the run `r`, begun with this payload
pub record IsBegunWith (r : PlainRun) (bytes : List ℕ) (b : Begun) : Type 0 where
  pub run : b.run ≡ r
  pub payload : b.payload.blocks ≡ cut_blocks r.blocks r.block_bytes bytes
  pub shaped : IsPayload b.run b.payload.blocks

-- there is a client, and it can start an attempt
abbrev pub IsReady : Option WorldClient → Type 0
IsReady o = (c : WorldClient) × (o ≡ Some c) × (c.client.at.stage ≡ Ready)

-- The client starts an attempt at its next volume. If an allocation fails, nothing has changed.
abbrev pub Starts : Option WorldClient → Result AttemptState EventStop → Option WorldClient → Type 0
Starts None result new = ⊥
Starts (Some c) (Ok dump) new =
    (d : WorldClient) × (new ≡ Some d) × IsSameRun c d × (d.client.at ≡ standing c.client.at.run c.client.at.counts (ToSend Open))
    × (d.client.reader ≡ reply_held None [])
    × (dump ≡ new_dumping c.number (checkpoint_of c.client.at.counts).0 (checkpoint_of c.client.at.counts).1)
Starts (Some c) (Err stop) new =
    (d : WorldClient) × (new ≡ Some d) × IsSameRun c d × (d.client.at ≡ c.client.at) × (d.client.reader ≡ c.client.reader) × (stop ≡ OutOfMemory)
