-- The queries of `rdump dates`, their output, and the exit status. A plain value is what contracts
-- use for a value that the code has in memory. Public contracts cite it.
use Rattle.std.specs.Prelude.{◌≡◌, ◌⊎◌, ℕ, true, false, List, [], ◌∷◌, ◌++◌, Option, Some, None, codes, decimal, option_map}
use Rattle.std.specs.Borrow.{Bor}
use Rattle.dumpdates.specs.Dates.{base_of}
use Rattle.dumpdates.specs.Entry.{DatesEntry}
use Rattle.dumpdates.specs.Lines.{SpellsDates, HasDatesFault}
use Rattle.dumpdates.specs.Text.{written, line_feed}
use Rattle.dumpdates.specs.declared.fault.DatesFault.{DatesFault}
use Rattle.dumpdates.specs.declared.fault.DatesFault.TheVariants.{BadLine, BadDate, OutOfMemory}
use Rattle.console.specs.declared.status.ExitStatus.{ExitStatus}
use Rattle.console.specs.declared.status.ExitStatus.TheVariants.{Success, StartupError}
use Rattle.rmt_wire.specs.Counted.{Counting}
use Rattle.rmt_wire.specs.Print.{IsPrinted}
use Rattle.dump_files.specs.declared.dates_file.Text.{Text}
use Rattle.dump_files.specs.declared.dates_file.Text.TheVariants.{Entries, Line}

-- a query for the base date of a dump of this name and level
pub record AskedDump : Type 0 where
  pub name : List ℕ
  pub level : ℕ

-- makes an `AskedDump`
abbrev pub asked_dump : List ℕ → ℕ → AskedDump
asked_dump name level = record { name = name; level = level }

-- the query of the arguments, as plain values
abbrev pub plain_asked : Option (Bor (List ℕ) × ℕ) → Option AskedDump
plain_asked asked = option_map (λ a. asked_dump a.0.now a.1) asked

-- the text of all entries, or the base date of a name and level as a line of digits
abbrev pub answer_text : Option AskedDump → List DatesEntry → List ℕ
answer_text None entries = written entries
answer_text (Some asked) entries = decimal (base_of entries asked.name asked.level) ++ line_feed ∷ []

-- the line printed for a fault
abbrev pub dates_fault_text : DatesFault → List ℕ
dates_fault_text (BadLine n) = codes "line " ++ decimal n ++ codes ": bad line\n"
dates_fault_text (BadDate n) = codes "line " ++ decimal n ++ codes ": bad date\n"
dates_fault_text OutOfMemory = codes "out of memory\n"

-- The text and the exit status that answer a query. Either the file spells entries, the text is
-- their answer and the status is `Success`. Or there is a fault, the text is that of the fault and
-- the status is `StartupError`. The fault can be a failed allocation only if an entry was reached.
abbrev pub IsAnswer : List ℕ → Option AskedDump → List ℕ → ExitStatus → Type 0
IsAnswer file asked text status =
    ((entries : List DatesEntry) × SpellsDates file entries × (text ≡ answer_text asked entries) × (status ≡ Success))
    ⊎ ((fault : DatesFault) × HasDatesFault file fault × (text ≡ dates_fault_text fault) × (status ≡ StartupError))

-- The text was printed, and the status is `wanted`. Or a write failed, a beginning of the text was
-- printed, and the status is `StartupError`.
abbrev pub IsStatusPrinted : {W : Type 0} → (W → Option (List ℕ)) → List ℕ → ExitStatus → Counting W → Counting W → ExitStatus → Type 0
IsStatusPrinted contents text wanted out out' status =
    (IsPrinted contents text out out' true × (status ≡ wanted)) ⊎ (IsPrinted contents text out out' false × (status ≡ StartupError))

-- The text that answers the query for the bytes `file`, or that of a fault, was printed, and
-- `status` is its status. Or a write failed, a beginning of the text was printed, and `status` is
-- `StartupError`.
abbrev pub IsDates : {W : Type 0} → (W → Option (List ℕ)) → List ℕ → Option AskedDump → Counting W → Counting W → ExitStatus → Type 0
IsDates contents file asked out out' status =
    (text : List ℕ) × (wanted : ExitStatus) × IsAnswer file asked text wanted × IsStatusPrinted contents text wanted out out' status

-- The bytes of a text to print. No public contract needs it.
abbrev pub bytes_of : Text → List ℕ
bytes_of (Entries text) = text.items
bytes_of (Line line) = line.bytes

-- The file spells entries, and the text is their answer. No public contract needs it.
abbrev pub IsAnswerText : List ℕ → Option AskedDump → List ℕ → Type 0
IsAnswerText file asked text = (entries : List DatesEntry) × SpellsDates file entries × (text ≡ answer_text asked entries)
