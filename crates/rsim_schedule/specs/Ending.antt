-- How a schedule ends: what it prints, and its exit status. Public contracts cite it.
use Rattle.std.specs.Prelude.{◌≡◌, ◌≢◌, ◌⊎◌, ◌≤◌, ℕ, Bool, true, false, List, [], ◌++◌, codes, decimal, if◌then◌else◌, Option, Result, Ok, Err}
use Rattle.console.specs.declared.status.ExitStatus.{ExitStatus}
use Rattle.console.specs.declared.status.ExitStatus.TheVariants.{Success, StartupError, Abnormal}
use Rattle.rmt_wire.specs.Counted.{Counting}
use Rattle.rmt_wire.specs.Print.{IsPrinted}
use Rattle.world_model.specs.World.{World}
use Rattle.world_model.specs.First.{PlainDriveSpec, AreGoodDrives, first_world}
use Rattle.rsim_schedule.specs.Playing.{Plays}
use Rattle.rsim_schedule.specs.Report.{report_text}
use Rattle.rsim_schedule.specs.declared.halt.Halt.{Halt}
use Rattle.rsim_schedule.specs.declared.halt.Halt.TheVariants.{BadLine, NotPossible, OutOfMemory, StreamFailed}

-- the line that is printed if a schedule ends early; nothing after a failed write
abbrev pub halt_line : ℕ → Halt → List ℕ
halt_line n BadLine = codes "line " ++ decimal n ++ codes ": bad line\n"
halt_line n NotPossible = codes "line " ++ decimal n ++ codes ": not possible\n"
halt_line n OutOfMemory = codes "line " ++ decimal n ++ codes ": out of memory\n"
halt_line n StreamFailed = []

-- the exit status of a schedule that ends early
abbrev pub halt_status : Halt → ExitStatus
halt_status BadLine = StartupError
halt_status NotPossible = StartupError
halt_status OutOfMemory = Abnormal
halt_status StreamFailed = Abnormal

-- The line for this halt was printed, and `status` is its exit status, or `Abnormal` if that write
-- failed.
-- For `StreamFailed` nothing is printed.
abbrev pub IsHaltPrinted : {W : Type 0} → (W → Option (List ℕ)) → ℕ → Halt → Counting W → ExitStatus → Counting W → Type 0
IsHaltPrinted contents n StreamFailed out status out' = (out' ≡ out) × (status ≡ Abnormal)
IsHaltPrinted contents n halt out status out' =
    (whole : Bool) × IsPrinted contents (halt_line n halt) out out' whole × (status ≡ (if whole then halt_status halt else Abnormal))

-- events led from the first world of these good drives to this world, and printed this text
pub record HasPlayed (w : World) (text : List ℕ) : Type 0 where
  pub drives : List PlainDriveSpec
  pub good : AreGoodDrives drives
  pub plays : Plays (first_world drives) w text

-- a text that events print in some world, or the empty text before there is a world
abbrev pub IsPlay : List ℕ → Type 0
IsPlay text = (text ≡ []) ⊎ ((w : World) × HasPlayed w text)

-- a text that events print in some world, followed by the report of the resulting world
pub record IsReport (text : List ℕ) : Type 0 where
  pub drives : List PlainDriveSpec
  pub world : World
  pub played : List ℕ
  pub good : AreGoodDrives drives
  pub plays : Plays (first_world drives) world played
  pub is : text ≡ played ++ report_text drives world

-- a text that events print, followed by the line for the halt
pub record IsHalted (n : ℕ) (halt : Halt) (text : List ℕ) : Type 0 where
  pub played : List ℕ
  pub play : IsPlay played
  pub is : text ≡ played ++ halt_line n halt

-- How a run of a schedule ended:
-- - `Ok`: all lines were run, and the report was printed.
-- - `StreamFailed`: a write failed, and only a beginning of the text was printed.
-- - another halt: the lines before it were run, and what they print was printed.
abbrev pub IsScheduleRun : {W : Type 0} → (W → Option (List ℕ)) → Counting W → Result Unit Halt → Counting W → Type 0
IsScheduleRun contents out (Ok x) out' = (text : List ℕ) × IsReport text × IsPrinted contents text out out' true
IsScheduleRun contents out (Err StreamFailed) out' =
    (text : List ℕ) × (IsPlay text ⊎ IsReport text) × IsPrinted contents text out out' false
IsScheduleRun contents out (Err halt) out' = (text : List ℕ) × IsPlay text × IsPrinted contents text out out' true

-- How a schedule ended:
-- - `Success`: the report was printed.
-- - the status of a halt: the line of that halt was printed.
-- - `Abnormal`: a write failed, and only a beginning of the text was printed.
abbrev pub IsScheduled : {W : Type 0} → (W → Option (List ℕ)) → Counting W → ExitStatus → Counting W → Type 0
IsScheduled contents out status out' =
    ((text : List ℕ) × IsReport text × IsPrinted contents text out out' true × (status ≡ Success))
    ⊎ ((text : List ℕ) × (n : ℕ) × (halt : Halt) × (1 ≤ n) × (halt ≢ StreamFailed) × IsHalted n halt text
    × IsPrinted contents text out out' true × (status ≡ halt_status halt))
    ⊎ ((text : List ℕ) × (IsPlay text ⊎ IsReport text ⊎ ((n : ℕ) × (halt : Halt) × IsHalted n halt text))
    × IsPrinted contents text out out' false × (status ≡ Abnormal))

-- A schedule was run, and this is its status. Or no schedule was run, nothing was printed on `out`,
-- and the status is `Success` or `StartupError`.
abbrev pub IsRsim : {W : Type 0} → (W → Option (List ℕ)) → Counting W → ExitStatus → Counting W → Type 0
IsRsim contents out status out' = IsScheduled contents out status out' ⊎ ((out' ≡ out) × ((status ≡ Success) ⊎ (status ≡ StartupError)))
