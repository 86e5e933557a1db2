-- Entering a dump in a dumpdates file. Public contracts cite it.
use Rattle.std.specs.Prelude.{◌≡◌, ◌⊎◌, ℕ, List, [], Option, unwrap_or, Result, Ok, Err}
use Rattle.dumpdates.specs.Dates.{entered}
use Rattle.dumpdates.specs.Entry.{DatesEntry}
use Rattle.dumpdates.specs.Lines.{HasDatesFault, SpellsDates}
use Rattle.dumpdates.specs.Text.{written}
use Rattle.dumpdates.specs.declared.fault.DatesFault.TheVariants.{OutOfMemory}
use Rattle.whole_files.specs.WholeFile.{WholeFileKind}
use Rattle.whole_files.specs.declared.whole_file.FileFailed.{FileFailed}
use Rattle.dump_files.specs.declared.dates_update.UpdateFault.{UpdateFault}
use Rattle.dump_files.specs.declared.dates_update.UpdateFault.TheVariants.{Unread, Dates, Unwritten}

-- the text of these bytes with the entry replaced the file, or could not
abbrev pub PutsEntry : {F : Type 0} → WholeFileKind F → DatesEntry → List ℕ → F → F → Result Unit FileFailed → Type 0
PutsEntry k entry bytes old new done =
    (entries : List DatesEntry) × SpellsDates bytes entries × k.takes old (written (entered entries entry)) done new

-- The result of an update, given what was read. A file that does not exist is empty. If the bytes
-- are dumpdates, their text with the entry replaced the file, or could not. Otherwise the file is
-- unchanged: it is not a dumpdates file, an allocation failed, or it could not be read.
abbrev pub PutsInto : {F : Type 0} → WholeFileKind F → DatesEntry → Result (Option (List ℕ)) FileFailed → F → F
    → Result Unit UpdateFault → Type 0
PutsInto k entry (Ok bytes) old new (Ok x) = PutsEntry k entry (unwrap_or bytes []) old new (Ok x)
PutsInto {F} k entry (Ok bytes) old new (Err Unwritten) = (failed : FileFailed) × PutsEntry k entry (unwrap_or bytes []) old new (Err failed)
PutsInto k entry (Ok bytes) old new (Err (Dates fault)) = (new ≡ old) × (HasDatesFault (unwrap_or bytes []) fault ⊎ (fault ≡ OutOfMemory))
PutsInto k entry (Err failed) old new (Err Unread) = new ≡ old
PutsInto k entry read old new result = ⊥

-- `old` was read, and then `entry` was put into its contents; `new` is the file after that, and
-- `result` says whether the update succeeded
abbrev pub IsUpdated : {F : Type 0} → WholeFileKind F → DatesEntry → F → F → Result Unit UpdateFault → Type 0
IsUpdated {F} k entry old new result =
    (read : Result (Option (List ℕ)) FileFailed) × (between : F) × k.gives old read between × PutsInto k entry read between new result
