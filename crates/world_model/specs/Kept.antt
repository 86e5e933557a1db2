-- How the headline is proved: everything that each event preserves. No statement of the headline
-- uses these definitions. A count is the record of a volume that the client wrote whole to a reel.
-- Here `w` is a world, `l` a connection, `b` a run that was begun, and `c` the client. Public
-- contracts cite it.
use Rattle.std.specs.Prelude.{◌≡◌, ◌≢◌, ℕ, ◌<◌, true, false, [], length, Contains, Option, Some, None}
use Rattle.rmt_server.specs.ServerState.{ServerState, ServerConnection}
use Rattle.drives.specs.TapeLibrary.{drive_at}
use Rattle.dump_run.specs.Run.{IsRun}
use Rattle.dump_run.specs.Counts.{AreVolumes}
use Rattle.dump_client.specs.Lawful.{IsLawful}
use Rattle.dump_client.specs.declared.stage.Stage.TheVariants.{Finished}
use Rattle.world_model.specs.World.{World, Connection, Begun, WorldClient, Entered, Kept, numbered}
use Rattle.world_model.specs.Changes.{side_of, connection_of}
use Rattle.world_model.specs.History.{counts_in, dates_after}
use Rattle.world_model.specs.Standing.{AreHeld, AreThere, IsFirstAway, IsOnlineAt}
use Rattle.world_model.specs.Headline.{AreOnce, IsEarned}
use Rattle.world_model.specs.History.{AreCountedIn}
use Rattle.world_model.specs.Owning.{IsOwned}
use Rattle.world_model.specs.Sending.{AreTold}
use Rattle.world_model.specs.Attempts.{AreSingle, AreLabelled, EachCountHasAttempt}
use Rattle.world_model.specs.Naming.{AreNamed, AreOpened, AreWritersLast}
use Rattle.world_model.specs.Sparing.{AreNotReopened}
use Rattle.world_model.specs.First.{IsReadable}

-- If the server's side has ended or the peer has left, the connection is cut. If the server's side
-- has ended, nothing is in transit to it.
pub record IsTidy (s : Option ServerConnection) (l : Connection) : Type 0 where
  pub here : s ≡ None → l.cut ≡ true
  pub there : l.other ≡ false → l.cut ≡ true
  pub nothing : s ≡ None → l.toward ≡ []

-- each connection is tidy, and has an entry for the server's side, live or ended
pub record AreTidy (w : World) : Type 0 where
  pub paired : length w.server.sides ≡ length w.connections
  pub each : (k : ℕ) (l : Connection) → connection_of w k ≡ Some l → IsTidy (side_of w.server k) l

-- While a session is online at a drive, the first reel of its stack is away from its slot, and no
-- other. Every other reel, on a stack or in the bin, is in its slot.
pub record AreLaid (h : ServerState) : Type 0 where
  pub latched : (d : ℕ) → IsOnlineAt h d → IsFirstAway (drive_at h.library d).stack
  pub lying : (d : ℕ) → (IsOnlineAt h d → ⊥) → AreThere (drive_at h.library d).stack
  pub bin : AreThere h.library.bin

-- The saved run is within its limits, is the last that was begun, and is not entered. The saved
-- counts are its first volumes, in order, and each of them was counted.
pub record IsKeptRun (w : World) (k : Kept) : Type 0 where
  pub begun : Begun
  pub begun_as : numbered w.begun k.run ≡ Some begun
  pub limits : IsRun begun.run
  pub last : k.run ≡ length w.begun
  pub in_order : AreVolumes begun.run 1 0 k.listed
  pub counted : AreCountedIn w k.run k.listed
  pub unentered : (e : Entered) → Contains w.entered e → e.run ≢ k.run

-- Every event preserves this of runs, counts and dumpdates. The client's run is the last that was
-- begun: a new run drops the saved one. Each volume of the client's list was counted under the
-- number of its run. Numbers above those of the runs begun have no counts. Each run that was
-- entered is covered by the list that the client had then, and was entered once. The client's own
-- run is entered only if it is finished. Dumpdates has those entries and no others, in the order in
-- which they were made.
pub record AreBooked (w : World) : Type 0 where
  pub last : (c : WorldClient) → w.caller ≡ Some c → c.number ≡ length w.begun
  pub begun : (c : WorldClient) → w.caller ≡ Some c → (b : Begun) × (numbered w.begun c.number ≡ Some b) × (b.run ≡ c.at.run)
  pub listed : (c : WorldClient) → w.caller ≡ Some c → AreCountedIn w c.number c.at.counts
  pub kept : (k : Kept) → w.kept ≡ Some k → IsKeptRun w k
  pub none : (run : ℕ) → length w.begun < run → counts_in w.counts run ≡ []
  pub earned : (e : Entered) → Contains w.entered e → IsEarned w e
  pub once : AreOnce w.entered
  pub finished : (c : WorldClient) (e : Entered) → w.caller ≡ Some c → Contains w.entered e → e.run ≡ c.number → c.at.stage ≡ Finished
  pub dates : w.dates ≡ dates_after w.begun [] w.entered

-- The client, if there is one, is lawful.
abbrev pub IsClientLawful : World → Type 0
IsClientLawful w = (c : WorldClient) → w.caller ≡ Some c → IsLawful c.at

-- The invariant of a world: each first world with good drives satisfies the invariant, and each
-- event preserves the invariant.
pub record IsWorldKept (w : World) : Type 0 where
  -- The client's list contains the first volumes of the client's run, in order. The client's stage,
  -- which says what the client does next, fits this list. For example, if the client is finished,
  -- the volumes in the list contain all blocks of the run.
  pub lawful : IsClientLawful w
  -- While an attempt is under way, the client is on exactly one connection. Between attempts, the
  -- client is on no connection. The client has left all its earlier connections.
  pub owned : IsOwned w
  -- Field `sent`: On each connection of the client, the server has carried out all requests that
  -- the client sent, or all but the last. If the last request is not carried out yet, the request
  -- is lost, or each of its bytes is in transit or has reached the server. In this case the server
  -- has carried out exactly the attempt's earlier steps, and no write of these steps failed with a
  -- device fault.
  --
  -- Field `good`: Each run that was begun is within the limits of a run (`IsRun`). The run's
  -- payload has exactly as many blocks as the run, and each block has the run's block size.
  --
  -- Field `own`: While an attempt is under way, the attempt is for the client's current run and
  -- current volume. The attempt is in one of three states. In the first state, the client is about
  -- to send its next request, and no bytes are in transit. In the second state, the client has sent
  -- the request of the current step, and the server has not carried out this request. In the third
  -- state, the server has carried out the request of the current step. The reply to this request is
  -- in transit, is partly or wholly read, or is lost. If the reply lets the client continue, the
  -- server has carried out all steps before the client's next step.
  pub told : AreTold w
  -- For each connection of the client, the history has at most one accepted open for writing.
  -- Before the server has carried out the first request of a connection, the history has no open of
  -- this connection. After the server has accepted a label on a connection, the history has exactly
  -- one open of this connection.
  pub single : AreSingle w
  -- After the server has accepted the label of an attempt, this field makes two promises. Both
  -- promises end when a write of the attempt fails with a device fault, or when another session
  -- writes on the attempt's reel. First, the attempt's reel holds exactly what the attempt's
  -- accepted writes wrote, even after the attempt's session ends. Second, while this session has
  -- the reel in its drive, the session is at the reel's end. The second promise also ends when the
  -- server carries out the attempt's MTOFFL.
  pub labelled : AreLabelled w
  -- Each count belongs to the attempt on the count's connection. The count has the attempt's run,
  -- volume number and first block. The attempt opened the counted reel for writing. The server
  -- accepted the attempt's label, as many blocks as the count says, and the mark. No write of the
  -- attempt failed with a device fault. The server also carried out the attempt's MTOFFL.
  pub counted : EachCountHasAttempt w
  -- Each connection has a server's side, which is live or has ended. If the server's side has
  -- ended, or the peer (the client or a stranger) has left, the connection is cut. If the server's
  -- side has ended, no bytes are in transit to the server.
  pub tidy : AreTidy w
  -- The *holder* of a drive is the connection whose session has the drive open. If the session no
  -- longer has a reel in the drive, the session's connection is still the holder. A drive that no
  -- session has open has no holder. Each drive has at most one holder, so no two sessions have the
  -- same drive open.
  pub held : AreHeld w.server
  -- A *slot* is the place of a reel on a stack or in the bin. While a session has a reel in its
  -- drive, the first slot of the drive's stack is empty. Every other slot contains its reel.
  pub laid : AreLaid w.server
  -- Fields `last`, `begun`, `listed`, `none`: The client's run is the last run that was begun. For
  -- each volume in the client's list, the history has a count with the number of this run. After a
  -- restart of the client, the history can have counts of the run that are not in the client's
  -- list. No count has a run number above the number of the last run that was begun.
  --
  -- Field `kept`: The saved run is the run that a restarted client resumes. The saved run is within
  -- its limits (`IsRun`), is the last run that was begun, and was not entered in dumpdates. The
  -- saved list of counted volumes contains the first volumes of the saved run, in order. The
  -- history has a count of each volume in the saved list.
  --
  -- Fields `earned`, `once`, `finished`, `dates`: Each run that was entered in dumpdates was begun,
  -- and was entered once. When a run was entered, the volumes in the client's list contained all
  -- blocks of the run, in order. Each of these volumes had at least one block, unless the run had
  -- none. The history has a count of each volume in this list. If the client's current run was
  -- entered, this run is finished. Entering the same runs in an empty list, in the same order,
  -- results in exactly the entries of dumpdates.
  pub booked : AreBooked w
  -- No two reels have the same name. Each reel of an accepted open in the history still exists.
  pub once : AreNamed w
  -- The connection of each accepted open in the history exists. If a session has a reel open for
  -- writing, no open of this reel for writing was accepted after the one by this session.
  pub opened : AreOpened w
  -- If a connection wrote on a reel, the last accepted open of this reel for writing before the
  -- write was on the same connection.
  pub writers : AreWritersLast w
  -- Field `paired`: For each accepted open, the history has one list of counts: the client's list
  -- at the time of the open.
  --
  -- Fields `late`, `stopped`: An attempt begins with three requests: the open, the rewind, and the
  -- look, which reads the label. If a session of the client has written on a reel, the server has
  -- carried out more than three requests of this session. Suppose that no foreign session reopened
  -- a counted reel, and that the client opened this reel again in a later session. Then the client
  -- sent at most three requests in the later session.
  --
  -- Fields `listed`, `looked`: While an attempt is under way and the client has not counted the
  -- attempt's volume, the client's list does not change. The history has this list for the
  -- attempt's open and for each later open. Suppose that no foreign session reopened a counted
  -- reel, and that the attempt under way opened this reel after the count's own session did. Then
  -- the attempt goes no further than its look (the read of the label): the client gets no reply to
  -- the look that lets the attempt continue.
  pub not_reopened : AreNotReopened w
  -- While the server's side of a connection is live, the side has a list of bytes that it has not
  -- read yet. The list can be empty, but the list always exists. So statements about unread bytes
  -- apply to every live server's side.
  pub readable : IsReadable w
