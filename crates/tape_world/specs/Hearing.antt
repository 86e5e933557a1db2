-- The effect of bytes that reach the client, on it and on its connection. A count is the record of
-- a volume that the client wrote whole to a reel. No public contract needs it.
use Rattle.std.specs.Prelude.{◌≡◌, ℕ, Bool, true, false, IsTrue, List, ◌++◌, length, drop, option_to_list, Option, Some, None}
use Rattle.dump_client.specs.Standing.{FedAt}
use Rattle.dump_client.specs.Client.{HasFedAt, unanswered}
use Rattle.dump_run.specs.declared.count.VolumeCount.{VolumeCount}
use Rattle.dump_client.specs.declared.stage.Progress.{Progress}
use Rattle.dump_client.specs.declared.stage.Progress.TheVariants.{Failed, Ended}
use Rattle.world_model.specs.World.{Connection, Count}
use Rattle.world_model.specs.Changes.{without_peer}
use Rattle.world_host.specs.Connection.{deliver_back}
use Rattle.tape_world.specs.Holding.{is_in_attempt}
use Rattle.tape_world.specs.Calling.{IsSameRun, failure_of}
use Rattle.tape_world.specs.declared.caller.WorldClient.{WorldClient}
use Rattle.tape_world.specs.declared.world_state.hearing.PieceHeard.{PieceHeard}

-- whether the attempt is over
abbrev pub is_over : Progress → Bool
is_over (Failed fault) = true
is_over Ended = true
is_over progress = false

-- the connection after `n` bytes reached the client, which leaves it if its attempt is over
abbrev pub heard_on : Bool → ℕ → Connection → Connection
heard_on true n l = without_peer l
heard_on false n l = deliver_back n l

-- the client's own connection, which is none if its attempt is over
abbrev pub own_after : Bool → Option ℕ → Option ℕ
own_after true own = None
own_after false own = own

-- there is a client, and it is in an attempt
abbrev pub IsAttempting : Option WorldClient → Type 0
IsAttempting o = (c : WorldClient) × (o ≡ Some c) × IsTrue (is_in_attempt c.client.at.stage)

-- The client heard these bytes, and `heard` is the outcome, with the number of its run.
pub record HasHeard (o : Option WorldClient) (piece : List ℕ) (heard : PieceHeard) (new : Option WorldClient) : Type 0 where
  pub before : WorldClient
  pub after : WorldClient
  pub fed : List ℕ
  pub progress : Progress
  pub was : o ≡ Some before
  pub is : new ≡ Some after
  pub same : IsSameRun before after
  pub had : HasFedAt before.client.at.stage before.client.reader fed
  pub moved : FedAt before.client.at.stage before.client.at fed piece progress after.client.at
  pub has : HasFedAt after.client.at.stage after.client.reader (unanswered after.client.at.stage (fed ++ piece))
  pub run : heard.run ≡ before.number
  pub count : option_to_list heard.count ≡ drop (length before.client.at.counts) after.client.at.counts
  pub over : heard.is_over ≡ is_over progress
  pub failure : heard.failure ≡ failure_of after.client.at progress

-- the count `c` of the client, with its run, its reel and its connection
abbrev pub history_count : ℕ → List ℕ → ℕ → VolumeCount → Count
history_count run reel connection c =
    record { run = run; volume = c.volume; first = c.first; count = c.count; reel = reel; connection = connection }
