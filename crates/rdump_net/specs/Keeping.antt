-- A dump with an observer. A count is the record of a volume that was written whole: its number, its
-- first block and its number of blocks. `told` holds for the payloads that the client's source can
-- have. Public contracts cite it.
use Rattle.std.specs.Prelude.{◌≡◌, ◌⊎◌, ℕ, Bool, true, false, List, [], ◌∷◌, ◌++◌, length, Option, Some, codes}
use Rattle.rmt_wire.specs.Counted.{Counting}
use Rattle.rmt_wire.specs.Print.{IsPrinted}
use Rattle.dump_run.specs.Checkpoint.{PlainCheckpoint}
use Rattle.dump_run.specs.Run.{PlainRun}
use Rattle.dump_run.specs.declared.count.VolumeCount.{VolumeCount}
use Rattle.dump_client.specs.Standing.{Standing}
use Rattle.dump_client.specs.Client.{ClientHeld, HasFed}
use Rattle.remote_tape.specs.Peer.{Logs}
use Rattle.rdump_net.specs.Talk.{Talks}
use Rattle.rdump_net.specs.Lines.{DumpLines, IsConclusion, IsPrefixOf}
use Rattle.rdump_net.specs.Observing.{AreTold, DumpEvent, LogsOn, counts_of, entered_of, kept_of}
use Rattle.rdump_net.specs.Observing.DumpEvent.{Counted, Kept}
use Rattle.rdump_net.specs.declared.conclusion.Conclusion.{Conclusion}
use Rattle.rdump_net.specs.declared.conclusion.Conclusion.TheVariants.{Complete, Unkept}
use Rattle.remote_tape.specs.declared.peer.Passed.{Passed}

-- makes a `PlainCheckpoint`
abbrev pub plain_checkpoint : PlainRun → List VolumeCount → PlainCheckpoint
plain_checkpoint run counts = record { run = run; counts = counts }

-- the last of the kept checkpoints is that of a client in the state `at`
abbrev pub IsKept : List DumpEvent → Standing → Type 0
IsKept events at = (before : List PlainCheckpoint) × (kept_of events ≡ before ++ plain_checkpoint at.run at.counts ∷ [])

-- An order in which a dump can have done what it did so far: what passed at the peer, what was
-- printed, the observer's events, and the client's state. There are two texts. The first was printed
-- whole. The second was printed after it, perhaps not whole, and then nothing more is done.
--
-- - An attempt starts only if the last kept checkpoint is the client's.
-- - The observer is told of each counted volume once, in order.
-- - Something is printed only after the observer was told of all volumes that were counted since the
--   dump began.
-- - A checkpoint is kept only after the lines of all volumes counted in it since the dump began are
--   printed whole. The same one may be kept twice.
-- - The dump may have used another order with the same logs.
pub data KeptDump (told : List (List ℕ) → Type 0) (start : Standing) (first : List ℕ)
    : List Passed → List ℕ → List ℕ → List DumpEvent → Standing → List ℕ → Type 0 where
  none : KeptDump told start first [] [] [] [] start first
  then_talk : {passed more : List Passed} {text : List ℕ} {events : List DumpEvent} {before after : Standing} {fed later : List ℕ}
      → KeptDump told start first passed text [] events before fed → Talks told (IsKept events) before fed more after later
      → KeptDump told start first (passed ++ more) text [] events after later
  then_count : {passed : List Passed} {text : List ℕ} {events : List DumpEvent} {at : Standing} {fed : List ℕ} (count : VolumeCount)
      → KeptDump told start first passed text [] events at fed → IsPrefixOf (start.counts ++ counts_of events ++ count ∷ []) at.counts
      → KeptDump told start first passed text [] (events ++ Counted count ∷ []) at fed
  then_print : {passed : List Passed} {text : List ℕ} {events : List DumpEvent} {at : Standing} {fed : List ℕ} (line : List ℕ)
      → KeptDump told start first passed text [] events at fed → AreTold start.counts events at.counts
      → KeptDump told start first passed (text ++ line) [] events at fed
  then_last : {passed : List Passed} {text : List ℕ} {events : List DumpEvent} {at : Standing} {fed : List ℕ} (line : List ℕ)
      → KeptDump told start first passed text [] events at fed → AreTold start.counts events at.counts
      → KeptDump told start first passed text line events at fed
  then_keep : {passed : List Passed} {text : List ℕ} {events : List DumpEvent} {at : Standing} {fed : List ℕ}
      → KeptDump told start first passed text [] events at fed → DumpLines start.counts at.counts text
      → KeptDump told start first passed text [] (events ++ Kept (plain_checkpoint at.run at.counts) ∷ []) at fed

-- the client, the peer, the output and the observer of a dump
pub record KeptEnds (B P W O : Type 0) : Type 0 where
  pub client : ClientHeld B
  pub peer : P
  pub out : Counting W
  pub observer : O

-- makes a `KeptEnds`
abbrev pub kept_ends : {B P W O : Type 0} → ClientHeld B → P → Counting W → O → KeptEnds B P W O
kept_ends client peer out observer = record { client = client; peer = peer; out = out; observer = observer }

-- the logs of these four: the source's blocks, what passed at the peer, what was written to the
-- output, the observer's events
pub record KeptKind (B P W O : Type 0) : Type 1 where
  pub holds : B → List (List ℕ) → Type 0
  pub tells : P → List Passed → Type 0
  pub contents : W → Option (List ℕ)
  pub logs : O → O → List DumpEvent → Type 0

-- makes a `KeptKind`
abbrev pub kept_kind : {B P W O : Type 0} → (B → List (List ℕ) → Type 0) → (P → List Passed → Type 0) → (W → Option (List ℕ))
    → (O → O → List DumpEvent → Type 0) → KeptKind B P W O
kept_kind holds tells contents logs = record { holds = holds; tells = tells; contents = contents; logs = logs }

-- What a dump did between `old` and `new`: it exchanged `passed` with the peer, printed `text` whole
-- and then `rest`, and the observer logged `events`. The peer logged what passed. `fed` and `later`
-- are the bytes that the client was fed since the request that awaits its reply was sent: `fed` at
-- `old`, and `later` at `new`.
pub record HasKept {B P W O : Type 0} (k : KeptKind B P W O) (old new : KeptEnds B P W O) (text rest : List ℕ) (events : List DumpEvent)
    (fed : List ℕ) : Type 0 where
  pub passed : List Passed
  pub later : List ℕ
  pub dumped : KeptDump (k.holds old.client.source) old.client.at fed passed text rest events new.client.at later
  pub keeps : HasFed new.client later
  pub logs : Logs k.tells old.peer new.peer passed

-- the line that is printed if the checkpoint could not be kept
abbrev pub unkept_line : List ℕ
unkept_line = codes "checkpoint not written\n"

-- how a dump ends, and its last line
abbrev pub IsKeptConclusion : Bool → Standing → List ℕ → Conclusion → Type 0
IsKeptConclusion whole at last Unkept = last ≡ unkept_line
IsKeptConclusion whole at last end = IsConclusion whole at last end

-- What a dump did up to its end. If it is complete, and the client's state changed, the last kept
-- checkpoint is the client's.
pub record HasKeptTo {B P W O : Type 0} (k : KeptKind B P W O) (old new : KeptEnds B P W O) (end : Conclusion) (text rest : List ℕ)
    (events : List DumpEvent) (fed : List ℕ) : Type 0 where
  pub has : HasKept k old new text rest events fed
  pub last : end ≡ Complete → (new.client.at ≡ old.client.at) ⊎ IsKept events new.client.at

-- A dump with an observer. All that it printed up to the last kept checkpoint was printed whole.
-- Then come the remaining lines and the last line. The observer was told of each volume that was
-- counted, and was not asked to enter anything in dumpdates.
pub record IsDumpKept {B P W O : Type 0} (k : KeptKind B P W O) (old new : KeptEnds B P W O) (end : Conclusion) : Type 0 where
  pub text : List ℕ
  pub rest : List ℕ
  pub last : List ℕ
  pub middle : Counting W
  pub whole : Bool
  pub events : List DumpEvent
  pub same : (payload : List (List ℕ)) → k.holds old.client.source payload → k.holds new.client.source payload
  pub kept : (fed : List ℕ) → HasFed old.client fed → HasKeptTo k old new end text (rest ++ last) events fed
  pub logs : LogsOn k.logs old.observer new.observer events
  pub counted : AreTold old.client.at.counts events new.client.at.counts
  pub unentered : entered_of events ≡ []
  pub printed : IsPrinted k.contents text old.out middle true
  pub told : IsPrinted k.contents (rest ++ last) middle new.out whole
  pub lines : DumpLines old.client.at.counts new.client.at.counts (text ++ rest)
  pub ends : IsKeptConclusion whole new.client.at last end

-- The result of keeping a checkpoint; `old` and `new` are how many volumes the last one kept counts.
-- True: the checkpoint was kept, unless the last one counts as many volumes. False: none was kept.
abbrev pub IsKeptUp : {O : Type 0} → (O → O → List DumpEvent → Type 0) → PlainCheckpoint → Option ℕ → Bool → Option ℕ → O → O → Type 0
IsKeptUp logs one old true new o o' =
    (new ≡ Some (length one.counts)) × (((old ≡ Some (length one.counts)) × LogsOn logs o o' []) ⊎ LogsOn logs o o' (Kept one ∷ []))
IsKeptUp logs one old false new o o' = LogsOn logs o o' []

-- the checkpoint could not be kept: the line that says so was printed, perhaps not whole, and the
-- dump ends as `Unkept`
abbrev pub IsUnkept : {W : Type 0} → (W → Option (List ℕ)) → Counting W → Counting W → Conclusion → Type 0
IsUnkept contents out out' end = (end ≡ Unkept) × ((whole : Bool) × IsPrinted contents unkept_line out out' whole)
