-- The effect of the start of `rmtd`, and what remains to be done. In comments, `line` is the parsed
-- command line. `kind` gives the contents of the two streams, if they are specified. Public
-- contracts cite it.
use Rattle.std.specs.Prelude.{◌≡◌, ℕ, ◌<◌, List, [], length, Option, Some, None, IsSome, All, option_map, unwrap_or, Result}
use Rattle.std.specs.declared.clone.Clone.{Ghosts as ClonePromise}
use Rattle.std.specs.declared.time.Duration.{Duration}
use Rattle.std.specs.declared.io.traits.Read.{Ghosts as ReadPromise}
use Rattle.clap.specs.Words.{Text}
use Rattle.rmt_server.specs.declared.stream.Served.{Served}
use Rattle.rmt_server.specs.Stream.{Streams, StreamsKind}
use Rattle.reel_files.specs.Folders.{FolderLibrary}
use Rattle.rmtd_args.specs.declared.rmtd_line.ServerLine.{ServerLine}
use Rattle.rmtd_args.specs.Rmtd.{AskToBeShown, IsLineOf}
use Rattle.rmtd_serve.specs.declared.startup.Begun.{Begun}
use Rattle.rmtd_serve.specs.declared.startup.Begun.TheVariants.{End, Serve}
use Rattle.rmtd_serve.specs.declared.session_fault.SessionFault.{SessionFault}
use Rattle.rmtd_serve.specs.declared.status.ExitStatus.{ExitStatus}
use Rattle.rmtd_serve.specs.declared.status.ExitStatus.TheVariants.{Ended, Failed}
use Rattle.rmtd_serve.specs.Status.{exit_status}
use Rattle.rmtd_serve.specs.Stdio.{AreUntouched, EndsStdio}
use Rattle.rmtd_serve.specs.Folders.{stacks_of, AreStacksOf, folder_kinds}
use Rattle.rmtd_serve.specs.Generic.{IsServedAt}

-- The arguments were followed, and the status is this one. The streams were served with a drive in
-- memory or with drives in folders, in a session of its own. Or all connections were served one
-- after the other. Or the server could not start, or the listener can never accept again. Reels in
-- folders have no known contents.
pub data EndsLine {In Out : Type 0} (kind : StreamsKind In Out) (line : ServerLine) (old new : Streams In Out) (status : ExitStatus) : Type 0 where
  in_memory : line.listen ≡ None → line.drives.items ≡ []
      → EndsStdio kind line.capacity old new status
      → EndsLine kind line old new status
  -- this does not say which bytes a read returns, or that any request succeeds
  in_folders : (ending : Result Served SessionFault) (before after : FolderLibrary)
      → line.listen ≡ None → 0 < length line.drives.items → AreStacksOf line before
      → IsServedAt folder_kinds kind before after old new ending → status ≡ exit_status ending
      → EndsLine kind line old new status
  -- this does not say that connections were served
  listened : IsSome line.listen → line.drives.items ≡ [] → AreUntouched old new → status ≡ Ended
      → EndsLine kind line old new status
  failed : AreUntouched old new → status ≡ Failed → EndsLine kind line old new status

-- The setup of a listener that these arguments ask for: the number of connections, the limit for
-- idle connections, the drives, and stacks of them for each seat.
pub record IsListenerSetupOf (line : ServerLine) (left : ℕ) (idle : Option Duration) (drives : ℕ) (stacks : List FolderLibrary) : Type 0 where
  pub some : 0 < length line.drives.items
  pub bin : List ℕ
  pub same_bin : option_map (λ s. s.now) line.bin ≡ Some bin
  pub same_left : left ≡ unwrap_or line.connections 18446744073709551615
  pub same_idle : idle ≡ line.idle
  pub same_drives : drives ≡ length line.drives.items
  pub same_stacks : All (λ s. s ≡ stacks_of line.drives.items bin line.capacity) stacks

-- for a line that asks to listen with drives in folders: that failed, or what remains is to serve
-- as it says
abbrev pub ListensOrEnds : {R Dir : Type 0} {reads : ReadPromise Dir} {clones : ClonePromise R} → ServerLine → Begun R Dir reads clones
    → Type 0
ListensOrEnds line (End status) = status ≡ Failed
ListensOrEnds line (Serve listener listener_setup) = IsListenerSetupOf line listener_setup.left listener_setup.idle listener_setup.table.words listener_setup.stacks.items

-- The effect of following `line`, on streams that are `old` before and `new` after, and what
-- remains to be done: nothing, with this status, or to serve a listener, if the line names an
-- address to listen on.
abbrev pub IsDone : {In Out R Dir : Type 0} {reads : ReadPromise Dir} {clones : ClonePromise R} → StreamsKind In Out
    → ServerLine → Streams In Out → Streams In Out → Begun R Dir reads clones → Type 0
IsDone kind line old new (End status) = EndsLine kind line old new status
IsDone kind line old new (Serve listener listener_setup) =
    AreUntouched old new × IsSome line.listen × IsListenerSetupOf line listener_setup.left listener_setup.idle listener_setup.table.words listener_setup.stacks.items

-- The effect of the arguments, and what remains to be done. Their line was followed. Or clap
-- printed help or the version. Or nothing was done, because the arguments are wrong or something
-- failed.
pub data IsBegun {In Out R Dir : Type 0} {reads : ReadPromise Dir} {clones : ClonePromise R} (kind : StreamsKind In Out)
    (arguments : List Text) (old new : Streams In Out) (begun : Begun R Dir reads clones) : Type 0 where
  followed : (line : ServerLine) → IsLineOf arguments line → IsDone kind line old new begun
      → IsBegun kind arguments old new begun
  shown : AskToBeShown arguments → AreUntouched old new → begun ≡ End Ended
      → IsBegun kind arguments old new begun
  refused : AreUntouched old new → begun ≡ End Failed
      → IsBegun kind arguments old new begun

-- What some arguments ask for was done, and `begun` is what remains to be done. No clause says
-- which arguments the program has.
abbrev pub IsStarted : {In Out R Dir : Type 0} {reads : ReadPromise Dir} {clones : ClonePromise R} → StreamsKind In Out
    → Streams In Out → Streams In Out → Begun R Dir reads clones → Type 0
IsStarted kind old new begun = (arguments : List Text) × IsBegun kind arguments old new begun
