-- A row of the table. Public contracts cite it.
use Rattle.std.specs.Prelude.{◌≡◌, ◌⊎◌, ℕ, Bool, true, false, List, [], ◌++◌, Option, Some, None}
use Rattle.console.specs.Printing.{printable}
use Rattle.refusals.specs.declared.request.TapeRequest.{TapeRequest}
use Rattle.refusals.specs.declared.row.Row.{Row}

-- A row with this request is for the request `asked`: it is the same one, or the row is for each
-- request.
abbrev pub IsAskedFor : Option TapeRequest → TapeRequest → Type 0
IsAskedFor request asked = (request ≡ Some asked) ⊎ (request ≡ None)

-- The row is for this request, and for this error number.
pub record IsRowOf (request : TapeRequest) (errno : ℕ) (row : Row) : Type 0 where
  pub number : row.number ≡ errno
  pub asked : IsAskedFor row.asked request

-- The name of the drive in the text of a row, if the row names the drive.
abbrev pub drive_text : Bool → List ℕ → List ℕ
drive_text true device = printable device
drive_text false device = []

-- The text of a row, with the name of this drive.
abbrev pub row_text : Row → List ℕ → List ℕ
row_text row device = row.before.now ++ (drive_text row.names_drive device ++ row.after.now)
