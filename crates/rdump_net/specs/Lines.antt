-- The lines that a dump prints. A count is the record of a volume that was written whole: its
-- number, its first block and its number of blocks. `contents` gives what was written to a stream,
-- if that is known. Public contracts cite it.
use Rattle.std.specs.Prelude.{◌≡◌, ◌≢◌, ◌⊎◌, ⊤, ℕ, Bool, true, false, List, [], ◌++◌, length, codes, decimal, Option, Some, None}
use Rattle.std.specs.List.{flat_map}
use Rattle.rmt_wire.specs.Counted.{Counting}
use Rattle.dump_client.specs.Standing.{Standing, checkpoint_of}
use Rattle.dump_client.specs.Standing.{VolumeCount}
use Rattle.dump_client.specs.declared.fault.AttemptFault.{AttemptFault}
use Rattle.dump_client.specs.declared.fault.AttemptFault.TheVariants.{Refused, Botched, ConnectionEnded, ShortWrite, ReelTooSmall, SourceFault, OutOfMemory, CountedReel}
use Rattle.dump_client.specs.declared.stage.Stage.{Stage}
use Rattle.dump_client.specs.declared.stage.Stage.TheVariants.{Ready, Asking, Finished}
use Rattle.console.specs.declared.status.ExitStatus.{ExitStatus}
use Rattle.console.specs.declared.status.ExitStatus.TheVariants.{Success, Abnormal}
use Rattle.rmt_wire.specs.Print.{IsPrinted}
use Rattle.rdump_net.specs.declared.conclusion.Conclusion.{Conclusion}
use Rattle.rdump_net.specs.declared.conclusion.Conclusion.TheVariants.{Complete, Abandoned, Left, PrintFailed}

-- the line of a counted volume: its number, its number of blocks, and its first block
abbrev pub count_line : VolumeCount → List ℕ
count_line c =
    codes "volume " ++ decimal c.volume ++ codes ": " ++ decimal c.count ++ codes " blocks from " ++ decimal c.first ++ codes "\n"

-- the lines of counted volumes, in order
abbrev pub count_lines : List VolumeCount → List ℕ
count_lines counts = flat_map count_line counts

-- a fault by its name; after a refusal its error number, after a counted reel its volume
abbrev pub fault_text : AttemptFault → List ℕ
fault_text (Refused number) = codes "Refused " ++ decimal number
fault_text Botched = codes "Botched"
fault_text ConnectionEnded = codes "ConnectionEnded"
fault_text ShortWrite = codes "ShortWrite"
fault_text ReelTooSmall = codes "ReelTooSmall"
fault_text SourceFault = codes "SourceFault"
fault_text OutOfMemory = codes "OutOfMemory"
fault_text (CountedReel volume) = codes "CountedReel " ++ decimal volume

-- the line of a failed attempt: its volume, and the fault
abbrev pub failure_line : ℕ → AttemptFault → List ℕ
failure_line volume fault = codes "volume " ++ decimal volume ++ codes " failed: " ++ fault_text fault ++ codes "\n"

-- the question to the operator
abbrev pub question_line : List ℕ
question_line = codes "retry?\n"

-- the line of the failure, and the question
abbrev pub failure_lines : ℕ → AttemptFault → List ℕ
failure_lines volume fault = failure_line volume fault ++ question_line

-- the last line of a complete dump: how many volumes and how many blocks
abbrev pub complete_text : ℕ → ℕ → List ℕ
complete_text volumes blocks = codes "dump complete: " ++ decimal volumes ++ codes " volumes, " ++ decimal blocks ++ codes " blocks\n"

-- the last line of a complete dump with these counted volumes
abbrev pub complete_line : List VolumeCount → List ℕ
complete_line counts = complete_text (length counts) (checkpoint_of counts).1

-- the last line of an abandoned dump
abbrev pub abandoned_line : List ℕ
abandoned_line = codes "dump abandoned\n"

-- the new counts are the old ones and, after them, any number of others
abbrev pub IsPrefixOf : List VolumeCount → List VolumeCount → Type 0
IsPrefixOf old new = (more : List VolumeCount) × (new ≡ old ++ more)

-- The lines of a dump that had the counts `first` and now has the other ones. Each volume counted
-- since `first` has one line, in order. A failed attempt has the lines of its failure, with the
-- number of the next volume. If an attempt may not begin, there is the question alone. This does
-- not say after which attempts a failure or a question is printed.
pub data DumpLines (first : List VolumeCount) : List VolumeCount → List ℕ → Type 0 where
  none : DumpLines first first []
  counted : {counts : List VolumeCount} {text : List ℕ} (more : List VolumeCount)
      → DumpLines first counts text → DumpLines first (counts ++ more) (text ++ count_lines more)
  failed : {counts : List VolumeCount} {text : List ℕ} (fault : AttemptFault)
      → DumpLines first counts text → DumpLines first counts (text ++ failure_lines (checkpoint_of counts).0 fault)
  asked : {counts : List VolumeCount} {text : List ℕ} → DumpLines first counts text → DumpLines first counts (text ++ question_line)

-- The last line and the exit status: `Success` if the run is finished, and `Abnormal` if it was
-- abandoned. If printing failed, the status is `Abnormal`.
abbrev pub IsLast : Bool → Standing → List ℕ → ExitStatus → Type 0
IsLast true at last status =
    ((at.stage ≡ Finished) × (last ≡ complete_line at.counts) × (status ≡ Success))
    ⊎ ((at.stage ≢ Finished) × (last ≡ abandoned_line) × (status ≡ Abnormal))
IsLast false at last status = status ≡ Abnormal

-- what a dump prints, from the counts `first` up to the client's state `at`, and its exit status
pub record IsDumped {W : Type 0} (contents : W → Option (List ℕ)) (first : List VolumeCount) (at : Standing)
    (out out' : Counting W) (status : ExitStatus) : Type 0 where
  pub text : List ℕ
  pub last : List ℕ
  pub whole : Bool
  pub lines : DumpLines first at.counts text
  pub printed : IsPrinted contents (text ++ last) out out' whole
  pub ends : IsLast whole at last status

-- the client is between two attempts: the next can start, or waits for an answer
abbrev pub IsBetween : Stage → Type 0
IsBetween Ready = ⊤
IsBetween Asking = ⊤
IsBetween stage = ⊥

-- How a dump ends, and its last line: complete if the run is finished, abandoned if not,
-- `PrintFailed` if printing failed. A dump that was left has no last line, and its client is between
-- two attempts.
abbrev pub IsConclusion : Bool → Standing → List ℕ → Conclusion → Type 0
IsConclusion true at last Complete = (at.stage ≡ Finished) × (last ≡ complete_line at.counts)
IsConclusion true at last Abandoned = (at.stage ≢ Finished) × (last ≡ abandoned_line)
IsConclusion true at last Left = (last ≡ []) × IsBetween at.stage
IsConclusion false at last PrintFailed = ⊤
IsConclusion whole at last end = ⊥

-- What a dump prints, from the counts `first` up to the client's state `at`, and how it ends.
-- `text` has the lines of the volumes counted since `first`, and `last` is the last line. `whole`
-- is true if both were printed without an error.
pub record IsConcluded {W : Type 0} (contents : W → Option (List ℕ)) (first : List VolumeCount) (at : Standing)
    (out out' : Counting W) (end : Conclusion) : Type 0 where
  pub text : List ℕ
  pub last : List ℕ
  pub whole : Bool
  pub lines : DumpLines first at.counts text
  pub printed : IsPrinted contents (text ++ last) out out' whole
  pub ends : IsConclusion whole at last end

-- the exit status of a dump that ended this way
abbrev pub conclusion_status : Conclusion → ExitStatus
conclusion_status Complete = Success
conclusion_status end = Abnormal

-- What one round of a dump prints, from the counts `first` up to the client's state `at`. Before
-- the last round (None), these are the lines of the volumes counted in it. The last round, which
-- ends as `end`, also prints the last line.
abbrev pub IsRound : {W : Type 0} → (W → Option (List ℕ)) → List VolumeCount → Standing → Counting W → Counting W → Option Conclusion → Type 0
IsRound contents first at out out' None = (text : List ℕ) × DumpLines first at.counts text × IsPrinted contents text out out' true
IsRound contents first at out out' (Some end) = IsConcluded contents first at out out' end

-- The last line of a dump is printed. The dump ends as `end`, which depends on the client's state
-- `at` and on whether the whole line was printed.
abbrev pub IsFinish : {W : Type 0} → (W → Option (List ℕ)) → Standing → Counting W → Counting W → Conclusion → Type 0
IsFinish contents at out out' end =
    (last : List ℕ) × (whole : Bool) × IsPrinted contents last out out' whole × IsConclusion whole at last end

-- The observer's answer was taken: the dump goes on (None), or was left between two attempts.
abbrev pub IsReplied : Standing → Option Conclusion → Type 0
IsReplied at None = ⊤
IsReplied at (Some Left) = IsBetween at.stage
IsReplied at (Some end) = ⊥
