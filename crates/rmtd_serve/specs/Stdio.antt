-- A server of one stream. `kind` gives the contents of the two streams, if they are specified.
-- Public contracts cite it.
use Rattle.std.specs.Prelude.{◌≡◌, ℕ, false, true, List, [], ◌∷◌, codes, Some, Result, Ok, Err}
use Rattle.rmt_server.specs.declared.stream.Served.{Served}
use Rattle.rmt_server.specs.Session.{SessionView, session_view, ServeRun}
use Rattle.rmt_server.specs.Session.PlainSession.{Idle}
use Rattle.rmt_server.specs.Stream.{Exchange, Streams, StreamsKind, AreRead, AreAnswered, EndsAs, NoneFailed}
use Rattle.drives.specs.TapeLibrary.{library, drive_with, slot, kept_reel}
use Rattle.rmtd_serve.specs.declared.session_fault.SessionFault.{SessionFault}
use Rattle.rmtd_serve.specs.declared.session_fault.SessionFault.TheVariants.{Stream, OutOfMemory, NoSeat}
use Rattle.rmtd_serve.specs.declared.status.ExitStatus.{ExitStatus}
use Rattle.rmtd_serve.specs.Status.{exit_status, exit_code}

-- the name of the drive
abbrev pub the_drive : List ℕ
the_drive = codes "/dev/st0"

-- the name of the reel
abbrev pub the_reel : List ℕ
the_reel = codes "reel"

-- nothing is open, and the drive's one reel is empty
abbrev pub blank_session_view : ℕ → SessionView
blank_session_view capacity = session_view (library (drive_with the_drive (slot the_reel (Some (kept_reel [] capacity)) ∷ []) ∷ []) []) Idle

-- neither stream was touched
abbrev pub AreUntouched : {In Out : Type 0} → Streams In Out → Streams In Out → Type 0
AreUntouched old new = (new.input ≡ old.input) × (new.output ≡ old.output)

-- The stream ended without failure, and all replies were written. Or a read failed, and the
-- requests read were answered. Or a write failed, and only a beginning of the last reply was
-- written. Or there was no session, and neither stream was touched.
abbrev pub EndsWith : {In Out : Type 0} → StreamsKind In Out → Result Served SessionFault → Streams In Out → Streams In Out
    → List ℕ → List Exchange → List ℕ → Type 0
EndsWith kind (Ok served) old new read done rest = EndsAs kind (Ok served) old new read done rest × NoneFailed old new
EndsWith kind (Err (Stream fault)) old new read done rest = EndsAs kind (Err fault) old new read done rest
EndsWith kind (Err OutOfMemory) old new read done rest = AreAnswered kind old new read done rest × (read ≡ []) × AreUntouched old new
EndsWith kind (Err NoSeat) old new read done rest = AreAnswered kind old new read done rest × (read ≡ []) × AreUntouched old new

-- One stream is served with the drive in memory. The requests read, with their replies, are a run
-- of serve steps from the empty reel. In that run no device fails and no drive is busy.
pub record IsServedAlone {In Out : Type 0} (kind : StreamsKind In Out) (capacity : ℕ) (old new : Streams In Out) (ending : Result Served SessionFault)
    : Type 0 where
  pub read : List ℕ
  pub done : List Exchange
  pub rest : List ℕ
  pub finish : SessionView
  pub consumed : AreRead kind old new read
  pub ends : EndsWith kind ending old new read done rest
  pub run : ServeRun false false true (blank_session_view capacity) done finish

-- One stream is served with the drive in memory, from the empty reel on. The exit status is that of
-- how it ended.
abbrev pub EndsStdio : {In Out : Type 0} → StreamsKind In Out → ℕ → Streams In Out → Streams In Out → ExitStatus → Type 0
EndsStdio kind capacity old new status =
    (ending : Result Served SessionFault) × (status ≡ exit_status ending) × IsServedAlone kind capacity old new ending

-- One stream is served with the drive in memory, from the empty reel on. `code` is the number of
-- the exit status.
abbrev pub IsStdio : {In Out : Type 0} → StreamsKind In Out → ℕ → Streams In Out → Streams In Out → ℕ → Type 0
IsStdio kind capacity old new code =
    (status : ExitStatus) × (code ≡ exit_code status) × EndsStdio kind capacity old new status
