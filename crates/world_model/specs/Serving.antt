-- The server carries out one request: which drive that meets, and what changes. Here `w` is a world
-- and `k` the number of a connection. Public contracts cite it.
use Rattle.std.specs.Prelude.{◌≡◌, ◌≢◌, ℕ, ◌+◌, ◌≤◌, Bool, true, false, List, [], ◌∷◌, ◌++◌, length, slice_get, Contains, Some, None, MatchOption, Ok}
use Rattle.rmt_wire.specs.Request.{PlainRequest}
use Rattle.rmt_wire.specs.Request.PlainRequest.{Open, Op}
use Rattle.rmt_wire.specs.Reply.{PlainReply}
use Rattle.rmt_wire.specs.Reply.PlainReply.{Done, Error}
use Rattle.rmt_wire.specs.RequestParts.{ParsesAs}
use Rattle.rmt_wire.specs.RequestReader.{RequestHeld, Unread}
use Rattle.rmt_wire.specs.declared.mtio.TheConstants.{MTOFFL}
use Rattle.tape.specs.declared.trouble.Trouble.{Trouble}
use Rattle.drives.specs.TapeLibrary.{TapeLibrary, KeptReel, kept_reel, ReelSlot, slot, drive_at}
use Rattle.rmt_server.specs.Refusals.{refused}
use Rattle.rmt_server.specs.ServerState.{ServerConnection}
use Rattle.rmt_server.specs.Session.{PlainSession, SessionView, session_view, status_of, refusal as check, closed, closed_library}
use Rattle.rmt_server.specs.TroubledServe.{drive_in, with_holder, holder_of, TroubledServe}
use Rattle.dump_client.specs.Lawful.{steps_before}
use Rattle.dump_client.specs.declared.step.Step.{Step}
use Rattle.world_model.specs.World.{World, AttemptState, Begun, numbered}
use Rattle.world_model.specs.Changes.{side_of, opening}
use Rattle.world_model.specs.Steps.{carried}
use Rattle.world_model.specs.Sending.{is_labelled, is_marked, VolumeHasBlocks, request_in}
use Rattle.world_model.specs.Written.{whole_volume}

-- The server carries out a request that reached it on connection `k`, and `u` is the world after
-- it.
pub record ServerTurn (w : World) (k : ℕ) (trouble : Trouble) (u : World) : Type 0 where
  pub s : ServerConnection
  pub request : PlainRequest
  pub bytes : List ℕ
  pub rest : List ℕ
  pub reply : PlainReply
  pub reached : RequestHeld
  pub library : TapeLibrary
  pub session : PlainSession
  pub holders : List ℕ
  pub live : side_of w.server k ≡ Some s
  pub unread : Unread s.reached bytes
  pub gives : ParsesAs bytes (Ok (Some request)) rest
  pub left : Unread reached rest
  pub served : TroubledServe trouble w.server.holders k (session_view w.server.library s.session) request reply (session_view library session) holders
  pub is : u ≡ carried w k request reply reached library session holders

-- `request` is the one request of the attempt that was sent and not carried out. It is that of the
-- step after those that were carried out. Exactly the writes that come before that step were
-- accepted.
pub record IsNextSent (w : World) (d : AttemptState) (request : PlainRequest) : Type 0 where
  pub begun : Begun
  pub step : Step
  pub begun_as : numbered w.begun d.run ≡ Some begun
  pub sent : d.sent ≡ d.carried + 1
  pub before : d.carried ≡ length (steps_before begun.run d.first (d.first + d.blocks) step)
  pub label : d.label ≡ is_labelled step
  pub blocks : VolumeHasBlocks begun.run d.first step d.blocks
  pub mark : d.mark ≡ is_marked step
  pub asks : request ≡ request_in begun d step

-- whether the request is an open
abbrev pub is_open : PlainRequest → Bool
is_open (Open device mode) = true
is_open request = false

-- The drives, reels and session if nothing of the request is done: the same as before. An open
-- first closes what the session had open, so it leaves them as that close does.
abbrev pub undone : PlainRequest → SessionView → SessionView
undone (Open device mode) before = closed before
undone request before = before

-- the holders of the drives if nothing of the request is done
abbrev pub undone_holders : PlainRequest → PlainSession → List ℕ → List ℕ
undone_holders (Open device mode) session holders = with_holder (drive_in session) 0 holders
undone_holders request session holders = holders

-- The reply refuses the request. A refusal of an open is any error, as for a bad mode, an unknown
-- drive, one that another session has open, no reel, or a failed device. A refusal of another
-- request is the error of the first check that fails, not an error of the open reel or of its move.
abbrev pub Refuses : PlainSession → PlainRequest → PlainReply → Type 0
Refuses session (Open device mode) reply = (n : ℕ) × (text : List ℕ) × (reply ≡ Error n text)
Refuses session request reply = MatchOption (check (status_of session) request) ⊥ (λ why. reply ≡ refused why)

-- The request is refused, and nothing of it is done. Drives, stacks, bin, reels, session and
-- holders are as `undone` and `undone_holders` say.
pub record IsRefused (w : World) (session : PlainSession) (request : PlainRequest) (reply : PlainReply) (u : World)
    (after : PlainSession) : Type 0 where
  pub answer : Refuses session request reply
  pub same : session_view u.server.library after ≡ undone request (session_view w.server.library session)
  pub held : u.server.holders ≡ undone_holders request session w.server.holders

-- Only drive `d` changes. The stacks of all other drives stay the same, and so does the bin, except
-- that reels can be added at its end.
pub record ChangesAt (d : ℕ) (s t : TapeLibrary) : Type 0 where
  pub stacks : (e : ℕ) → e ≢ d → drive_at t e ≡ drive_at s e
  pub added : List (ReelSlot KeptReel)
  pub bin : t.bin ≡ s.bin ++ added

-- A request of session `k` meets one of these:
-- - `refusal`: it is refused.
-- - `own`: it is no open and no check refuses it. It meets the drive `d` that the session has open
--   and still holds. Afterwards the session has no other drive open. If the reel or its move to the
--   bin fails, the reel or its position can have changed before the error reply.
-- - `free`: it is an open that succeeds at drive `d`, which nobody holds once what the session had
--   open is closed.
--
-- In the last two cases only drive `d` changes, except that an open first closes what was open.
pub data Meets (w : World) (k : ℕ) (session : PlainSession) (request : PlainRequest) (reply : PlainReply) (u : World)
    (after : PlainSession) : Type 0 where
  refusal : IsRefused w session request reply u after → Meets w k session request reply u after
  own : (d : ℕ) → is_open request ≡ false → check (status_of session) request ≡ None → drive_in session ≡ Some d
      → slice_get w.server.holders d ≡ Some k → ((e : ℕ) → drive_in after ≡ Some e → e ≡ d)
      → ChangesAt d w.server.library u.server.library → Meets w k session request reply u after
  free : (d : ℕ) → is_open request ≡ true → reply ≡ Done 0 → drive_in after ≡ Some d
      → holder_of (with_holder (drive_in session) 0 w.server.holders) (Some d) ≡ 0
      → ChangesAt d (closed_library w.server.library session) u.server.library → Meets w k session request reply u after

-- If another session has a drive open, the drive keeps its holder and its stack, and that session
-- stays the same.
abbrev pub OthersStay : World → ℕ → World → Type 0
OthersStay w k u =
    (j d : ℕ) (y : ServerConnection) → j ≢ k → side_of w.server j ≡ Some y → drive_in y.session ≡ Some d
    → (side_of u.server j ≡ Some y) × (slice_get u.server.holders d ≡ Some j) × (drive_at u.server.library d ≡ drive_at w.server.library d)

-- The reel that the session opened and had in its drive is now the last in the bin. It holds the
-- whole volume of the attempt.
pub record IsWholeInBin (w : World) (k : ℕ) (d : AttemptState) (u : World) : Type 0 where
  pub begun : Begun
  pub begun_as : numbered w.begun d.run ≡ Some begun
  pub within : d.first + d.blocks ≤ begun.run.blocks
  pub name : List ℕ
  pub opened : Contains w.opens (opening k name)
  pub capacity : ℕ
  pub bin : u.server.library.bin
      ≡ w.server.library.bin ++ slot name (Some (kept_reel (whole_volume begun.run begun.payload d.volume d.first d.blocks) capacity)) ∷ []

-- the request is an MTOFFL, and it was done
abbrev pub IsMoveDone : PlainRequest → PlainReply → Type 0
IsMoveDone request reply = ((count : ℕ) × (request ≡ Op MTOFFL count)) × ((n : ℕ) × (reply ≡ Done n))
