-- Streams served one after the other with a drive in memory. `kind` gives the contents of the two
-- streams, if they are specified. Public contracts cite it.
use Rattle.std.specs.Prelude.{◌≡◌, ℕ, ◌<◌, false, true, List, length, slice_index, Result}
use Rattle.drives.specs.TapeLibrary.{TapeLibrary}
use Rattle.drives.specs.ListLibrary.{ListLibrary, IsLibrary, library_of, StacksCanFail}
use Rattle.drives.specs.Local.{Holders}
use Rattle.rmt_server.specs.declared.stream.Served.{Served}
use Rattle.rmt_server.specs.Session.{SessionView, session_view, closed, ServeRun}
use Rattle.rmt_server.specs.Session.PlainSession.{Idle}
use Rattle.rmt_server.specs.Stream.{Exchange, Streams, StreamsKind, AreRead}
use Rattle.rmtd_serve.specs.declared.session_fault.SessionFault.{SessionFault}
use Rattle.rmtd_serve.specs.Stdio.{EndsWith}

-- no seat holds a drive
abbrev pub AllFree : Holders → Type 0
AllFree holds = (d : ℕ) → d < length holds.numbers → slice_index holds.numbers d ≡ 0

-- Each reel is in one place, and no device can fail.
pub record IsAtRest (stacks : ListLibrary) : Type 0 where
  pub told : IsLibrary stacks (library_of stacks)
  pub quiet : StacksCanFail stacks → ⊥

-- One stream is served. The requests read, with their replies, are a run of serve steps from the
-- reels as they were. In that run no device fails and no drive is busy, and what is open at its end
-- is closed. If there was no session nothing is read.
pub record IsServedNext {In Out : Type 0} (kind : StreamsKind In Out) (before after : TapeLibrary) (old new : Streams In Out)
    (ending : Result Served SessionFault) : Type 0 where
  pub read : List ℕ
  pub done : List Exchange
  pub rest : List ℕ
  pub finish : SessionView
  pub consumed : AreRead kind old new read
  pub ends : EndsWith kind ending old new read done rest
  pub run : ServeRun false false true (session_view before Idle) done finish
  pub left : after ≡ (closed finish).library

-- streams served one after the other: each finds the reels as the one before left them
pub data ServedInTurn (first : TapeLibrary) : TapeLibrary → Type 0 where
  none : ServedInTurn first first
  one_more : {before : TapeLibrary} (done : List Exchange) (finish : SessionView)
      → ServedInTurn first before → ServeRun false false true (session_view before Idle) done finish
      → ServedInTurn first (closed finish).library
