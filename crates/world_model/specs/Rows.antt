-- Which events are possible. Here `l` is a connection, `s` the server's side of a connection, and
-- `c` the client. Public contracts depend on it (through Steps).
use Rattle.std.specs.Prelude.{◌≡◌, ◌⊎◌, ◌≢◌, ℕ, ◌+◌, ◌*◌, ◌≤◌, Bool, true, false, IsTrue, List, length, slice_index_or, Contains, Option, Some, None, Result, Ok}
use Rattle.rmt_wire.specs.Request.{PlainRequest}
use Rattle.rmt_wire.specs.RequestParts.{ParsesAs}
use Rattle.rmt_wire.specs.RequestReader.{RequestHeld, Unread, taken_of}
use Rattle.rmt_wire.specs.declared.limits.TheConstants.{READER_LIMIT}
use Rattle.rmt_wire.specs.declared.fault.WireFault.{WireFault}
use Rattle.drives.specs.TapeLibrary.{IsDriveNamed}
use Rattle.drives.specs.Arranging.{are_distinct, is_piled}
use Rattle.std.specs.List.{list_all}
use Rattle.rmt_server.specs.ServerState.{ServerState, ServerConnection}
use Rattle.dump_run.specs.Run.{IsRun}
use Rattle.dump_client.specs.declared.step.Step.{Step}
use Rattle.dump_client.specs.declared.stage.Stage.{Stage}
use Rattle.dump_client.specs.declared.stage.Stage.TheVariants.{Ready, ToSend, Asking, Finished, Abandoned}
use Rattle.world_model.specs.World.{World, Connection, WorldClient, Entered}
use Rattle.world_model.specs.Events.{PlainEvent}
use Rattle.world_model.specs.Events.PlainEvent.{StartRun, Connect, Send, ToServer, Serve, ToClient, Cut, EndAtServer, EndAtClient, ServerRestart, ClientRestart, Respond, Arrange, Stranger, Says, Enter, Save}
use Rattle.world_model.specs.Changes.{side_of, connection_of}

-- There is a client, and `p` holds of its stage.
abbrev pub StandsIn : World → (Stage → Type 0) → Type 0
StandsIn w p = (c : WorldClient) × (w.caller ≡ Some c) × p c.at.stage

-- whether the run is finished or abandoned
abbrev pub is_run_done : Stage → Bool
is_run_done Finished = true
is_run_done Abandoned = true
is_run_done stage = false

-- there is no client, or its run is finished or abandoned
abbrev pub NoRun : World → Type 0
NoRun w = (w.caller ≡ None) ⊎ StandsIn w (λ stage. IsTrue (is_run_done stage))

-- the run with this number was entered in dumpdates
abbrev pub IsRunEntered : World → ℕ → Type 0
IsRunEntered w number = (e : Entered) × Contains w.entered e × (e.run ≡ number)

-- the server's side of connection `k` is live, and `s` is its state
abbrev pub IsLiveHere : World → ℕ → ServerConnection → Type 0
IsLiveHere w k s = side_of w.server k ≡ Some s

-- `l` is connection `k`, and its peer is still there
abbrev pub IsLiveThere : World → ℕ → Connection → Type 0
IsLiveThere w k l = (connection_of w k ≡ Some l) × IsTrue l.other

-- at least 1 byte, and at most all that are in transit
abbrev pub IsPart : ℕ → List ℕ → Type 0
IsPart n way = (1 ≤ n) × (n ≤ length way)

-- the reader has room for `n` more bytes
abbrev pub HasRoomFor : RequestHeld → ℕ → Type 0
HasRoomFor h n = (bytes : List ℕ) → Unread h bytes → n + taken_of bytes ≤ READER_LIMIT

-- the unread bytes begin with a whole request, or with a fault
abbrev pub IsRequestFound : RequestHeld → Result (Option PlainRequest) WireFault → Type 0
IsRequestFound h found = (bytes : List ℕ) × (rest : List ℕ) × Unread h bytes × ParsesAs bytes found rest × (found ≢ Ok None)

-- The drive exists and has no holder. The reels are distinct, and each is in the bin or on the
-- stack of the drive.
abbrev pub MayArrange : ServerState → List ℕ → List (List ℕ) → Type 0
MayArrange h drive reels =
    (d : ℕ) × IsDriveNamed drive h.library (Some d) × (slice_index_or h.holders d 0 ≡ 0)
    × IsTrue (are_distinct reels) × IsTrue (list_all (is_piled h.library d) reels)

-- the client's run is not abandoned, and not both finished and entered
abbrev pub MayBeKept : World → WorldClient → Type 0
MayBeKept w c = (c.at.stage ≢ Abandoned) × (c.at.stage ≡ Finished → IsRunEntered w c.number → ⊥)

-- the event is possible in this world
abbrev pub Possible : World → PlainEvent → Type 0
Possible w (StartRun run payload) = NoRun w × IsRun run × (length payload ≡ run.blocks * run.block_bytes)
Possible w Connect = StandsIn w (λ stage. stage ≡ Ready)
Possible w (Send fails) = StandsIn w (λ stage. (step : Step) × (stage ≡ ToSend step))
Possible w (ToServer k n) =
    (s : ServerConnection) × (l : Connection) × IsLiveHere w k s × (connection_of w k ≡ Some l) × IsPart n l.toward × HasRoomFor s.reached n
Possible w (Serve k trouble) =
    (s : ServerConnection) × (found : Result (Option PlainRequest) WireFault) × IsLiveHere w k s × IsRequestFound s.reached found
Possible w (ToClient k n) = (l : Connection) × IsLiveThere w k l × IsPart n l.back
Possible w (Cut k) = (l : Connection) × (connection_of w k ≡ Some l) × (l.cut ≡ false)
Possible w (EndAtServer k) = (s : ServerConnection) × (l : Connection) × IsLiveHere w k s × (connection_of w k ≡ Some l) × IsTrue l.cut
Possible w (EndAtClient k) = (l : Connection) × IsLiveThere w k l × IsTrue l.cut
Possible w ServerRestart = Unit {0}
Possible w ClientRestart = (c : WorldClient) × (w.caller ≡ Some c)
Possible w (Respond answer) = StandsIn w (λ stage. stage ≡ Asking)
Possible w (Arrange drive reels) = MayArrange w.server drive reels
Possible w Stranger = Unit {0}
Possible w (Says k bytes) = (l : Connection) × IsLiveThere w k l × (l.dump ≡ None)
Possible w Enter =
    (c : WorldClient) × (w.caller ≡ Some c) × (c.at.stage ≡ Finished) × (IsRunEntered w c.number → ⊥)
Possible w Save = (c : WorldClient) × (w.caller ≡ Some c) × MayBeKept w c
