-- The effect of the client's next request, on it and on its connection. No public contract needs
-- it.
use Rattle.std.specs.Prelude.{◌≡◌, ◌≤◌, ℕ, Bool, true, false, List, [], length, Option, Some, None}
use Rattle.rmt_wire.specs.declared.limits.TheConstants.{READER_LIMIT}
use Rattle.rmt_wire.specs.Request.{request_text}
use Rattle.dump_run.specs.Blocks.{listed}
use Rattle.dump_client.specs.Script.{request_of}
use Rattle.dump_client.specs.Standing.{standing, checkpoint_of}
use Rattle.dump_client.specs.Client.{HasFedAt}
use Rattle.dump_client.specs.declared.step.Step.{Step}
use Rattle.dump_client.specs.declared.stage.Stage.TheVariants.{ToSend, Waiting, Asking}
use Rattle.dump_client.specs.declared.fault.AttemptFault.{AttemptFault}
use Rattle.dump_client.specs.declared.fault.AttemptFault.TheVariants.{SourceFault}
use Rattle.world_model.specs.World.{Connection}
use Rattle.world_model.specs.Changes.{without_peer}
use Rattle.world_model.specs.Steps.{is_failing, sent_connection}
use Rattle.tape_world.specs.declared.caller.WorldClient.{WorldClient}

-- there is a client, and it is about to send a request
abbrev pub IsToSend : Option WorldClient → Type 0
IsToSend o = (c : WorldClient) × (step : Step) × (o ≡ Some c) × (c.client.at.stage ≡ ToSend step)

-- If the flag is set, the attempt failed. Otherwise `text` is that of the request, and the client
-- waits for the reply.
abbrev pub AskedOf : Bool → WorldClient → Step → List ℕ → Option (ℕ × AttemptFault) → WorldClient → Type 0
AskedOf true c step text failure d =
    (failure ≡ Some ((checkpoint_of c.client.at.counts).0, SourceFault))
    × (d.client.at ≡ standing c.client.at.run c.client.at.counts Asking)
AskedOf false c step text failure d =
    (failure ≡ None) × (d.client.at ≡ standing c.client.at.run c.client.at.counts (Waiting step))
    × HasFedAt (Waiting step) d.client.reader []
    × (text ≡ request_text (request_of c.client.at.run c.client.source.blocks
    (checkpoint_of c.client.at.counts).0 (checkpoint_of c.client.at.counts).1 step))

-- The client, which has a request to send, is asked for it. Either `text` is the request, or the
-- attempt has failed with `failure`. If `fails`, the source's next read fails.
pub record Asks (o : Option WorldClient) (fails : Bool) (text : List ℕ) (failure : Option (ℕ × AttemptFault))
    (new : Option WorldClient) : Type 0 where
  pub before : WorldClient
  pub after : WorldClient
  pub step : Step
  pub failures : ℕ
  pub was : o ≡ Some before
  pub stage : before.client.at.stage ≡ ToSend step
  pub is : new ≡ Some after
  pub number : after.number ≡ before.number
  pub source : after.client.source ≡ listed before.client.source.blocks false failures
  pub short : length text ≤ READER_LIMIT
  pub asked : AskedOf (is_failing fails step) before step text failure after

-- the connection after the client sent its request, or after it left because its attempt failed
abbrev pub talked : List ℕ → Option (ℕ × AttemptFault) → Connection → Connection
talked text None l = sent_connection text l
talked text (Some failure) l = without_peer l
