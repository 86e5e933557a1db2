-- Entering a line in a catalog. Public contracts cite it.
use Rattle.std.specs.Prelude.{◌≡◌, ◌⊎◌, ℕ, List, [], ◌∷◌, ◌++◌, Option, Some, unwrap_or, Result, Ok, Err, Vec}
use Rattle.std.specs.Global.{Global}
use Rattle.dump_run.specs.DumpId.{PlainId}
use Rattle.dump_client.specs.Standing.{Standing}
use Rattle.whole_files.specs.WholeFile.{WholeFileKind}
use Rattle.whole_files.specs.declared.whole_file.FileFailed.{FileFailed}
use Rattle.catalog.specs.Catalog.{SpellsCatalog, HasCatalogFault}
use Rattle.catalog.specs.DumpLines.{PlainBegun}
use Rattle.catalog.specs.Line.{line_id, line_text}
use Rattle.catalog.specs.Run.{HasBegun, IsFinishedBy, IsInForce, IsRunIn}
use Rattle.catalog.specs.declared.fault.CatalogFault.TheVariants.{OutOfMemory}
use Rattle.catalog.specs.declared.line.CatalogLine.{CatalogLine}
use Rattle.catalog.specs.declared.line.CatalogLine.TheVariants.{Begun, Volume, Finished}
use Rattle.catalog.specs.declared.run.CatalogRun.{CatalogRun}
use Rattle.dump_files.specs.Counted.{IsCovered}
use Rattle.dump_files.specs.declared.catalog_update.EnterFault.{EnterFault}
use Rattle.dump_files.specs.declared.catalog_update.EnterFault.TheVariants.{Unread, Catalog, Unwritten}
use Rattle.dump_files.specs.declared.catalog_update.Entered.{Entered}
use Rattle.dump_files.specs.declared.catalog_update.Entered.TheVariants.{Added, There, Another, Uncovered}

-- The line is in force among those that follow the last line with which the dump `id` began.
abbrev pub StandsIn : List CatalogLine → PlainId → CatalogLine → Type 0
StandsIn after id (Begun b) = ⊥
StandsIn after id (Volume v) = IsInForce after id v
StandsIn after id (Finished f) = IsFinishedBy after id f

-- The line is in force already.
abbrev pub Stands : List CatalogLine → CatalogLine → Type 0
Stands lines line = (lately : CatalogRun) × IsRunIn lines (line_id line) (Some lately) × StandsIn lately.after.now (line_id line) line

-- What is to become of a line, given the lines of a catalog: it is not added if the number of lines
-- that say that its dump began is not `begun`, or if it is in force already.
abbrev pub DecidesLine : ℕ → CatalogLine → List CatalogLine → Entered → Type 0
DecidesLine begun line lines Added = HasBegun (line_id line) lines begun × (Stands lines line → ⊥)
DecidesLine begun line lines There = HasBegun (line_id line) lines begun × Stands lines line
DecidesLine begun line lines Another = HasBegun (line_id line) lines begun → ⊥
DecidesLine begun line lines Uncovered = ⊥

-- What is to become of the line of a finished dump: `Uncovered` if a count of the client has no
-- line in force, else what `DecidesLine` says.
abbrev pub DecidesFinished : ℕ → Standing → CatalogLine → List CatalogLine → Entered → Type 0
DecidesFinished begun at line lines Uncovered = IsCovered lines at.run at.counts → ⊥
DecidesFinished begun at line lines Added = IsCovered lines at.run at.counts × DecidesLine begun line lines Added
DecidesFinished begun at line lines There = IsCovered lines at.run at.counts × DecidesLine begun line lines There
DecidesFinished begun at line lines Another = IsCovered lines at.run at.counts × DecidesLine begun line lines Another

-- The text with the line at its end replaced the file, or could not. If an allocation failed, the
-- file is unchanged. No public contract needs it.
abbrev pub IsPut : {F : Type 0} → WholeFileKind F → CatalogLine → List ℕ → F → F → Result Entered EnterFault → Type 0
IsPut k line text old new (Ok Added) = k.takes old (text ++ line_text line) (Ok tt) new
IsPut k line text old new (Ok There) = ⊥
IsPut k line text old new (Ok Another) = ⊥
IsPut k line text old new (Ok Uncovered) = ⊥
IsPut {F} k line text old new (Err Unwritten) = (failed : FileFailed) × k.takes old (text ++ line_text line) (Err failed) new
IsPut k line text old new (Err (Catalog fault)) = (new ≡ old) × (fault ≡ OutOfMemory)
IsPut k line text old new (Err Unread) = ⊥

-- The same for the line of a dump that begins: the number is that of all lines that say that it
-- began. No public contract needs it.
abbrev pub IsBegunPut : {F : Type 0} → WholeFileKind F → PlainBegun → List CatalogLine → List ℕ → F → F → Result ℕ EnterFault → Type 0
IsBegunPut k line lines text old new (Ok begun) =
    HasBegun line.id (lines ++ Begun line ∷ []) begun × k.takes old (text ++ line_text (Begun line)) (Ok tt) new
IsBegunPut {F} k line lines text old new (Err Unwritten) = (failed : FileFailed) × k.takes old (text ++ line_text (Begun line)) (Err failed) new
IsBegunPut k line lines text old new (Err (Catalog fault)) = (new ≡ old) × (fault ≡ OutOfMemory)
IsBegunPut k line lines text old new (Err Unread) = ⊥

-- The result of reading a catalog: its text and its lines. A file that does not exist is empty. No
-- public contract needs it.
abbrev pub IsCatalogRead : {F : Type 0} → WholeFileKind F → F → F → Result (Vec ℕ Global × List CatalogLine) EnterFault → Type 0
IsCatalogRead k old new (Ok p) =
    (bytes : Option (List ℕ)) × k.gives old (Ok bytes) new × (p.0.items ≡ unwrap_or bytes []) × SpellsCatalog p.0.items p.1
IsCatalogRead k old new (Err (Catalog fault)) =
    (bytes : Option (List ℕ)) × k.gives old (Ok bytes) new × HasCatalogFault (unwrap_or bytes []) fault
IsCatalogRead k old new (Err Unread) = (failed : FileFailed) × k.gives old (Err failed) new
IsCatalogRead k old new (Err Unwritten) = ⊥

-- The result of entering a line, given the bytes that were read. `Decides` says for the lines of
-- the catalog what is to become of the line. If it is to be added, the bytes with the text of the
-- line at their end replaced the file, or could not. Otherwise the file is unchanged.
abbrev pub EntersInto : {F : Type 0} → WholeFileKind F → (List CatalogLine → Entered → Type 0) → CatalogLine → List ℕ → F → F
    → Result Entered EnterFault → Type 0
EntersInto k Decides line bytes old new (Ok Added) =
    (lines : List CatalogLine) × SpellsCatalog bytes lines × Decides lines Added × k.takes old (bytes ++ line_text line) (Ok tt) new
EntersInto k Decides line bytes old new (Ok There) = (lines : List CatalogLine) × SpellsCatalog bytes lines × Decides lines There × (new ≡ old)
EntersInto k Decides line bytes old new (Ok Another) =
    (lines : List CatalogLine) × SpellsCatalog bytes lines × Decides lines Another × (new ≡ old)
EntersInto k Decides line bytes old new (Ok Uncovered) =
    (lines : List CatalogLine) × SpellsCatalog bytes lines × Decides lines Uncovered × (new ≡ old)
EntersInto {F} k Decides line bytes old new (Err Unwritten) = (lines : List CatalogLine) × SpellsCatalog bytes lines × Decides lines Added
    × ((failed : FileFailed) × k.takes old (bytes ++ line_text line) (Err failed) new)
EntersInto k Decides line bytes old new (Err (Catalog fault)) = (new ≡ old) × HasCatalogFault bytes fault
EntersInto k Decides line bytes old new (Err Unread) = ⊥

-- `old` was read, and then the line was entered. `new` is the file after that. A file that does not
-- exist is empty. If it could not be read, it is unchanged after the read.
abbrev pub IsEntered : {F : Type 0} → WholeFileKind F → (List CatalogLine → Entered → Type 0) → CatalogLine → F → F
    → Result Entered EnterFault → Type 0
IsEntered {F} k Decides line old new result =
    ((bytes : Option (List ℕ)) × (between : F) × k.gives old (Ok bytes) between × EntersInto k Decides line (unwrap_or bytes []) between new result)
    ⊎ ((failed : FileFailed) × k.gives old (Err failed) new × (result ≡ Err Unread))

-- The result of entering the line of a dump that begins, given the bytes that were read. If it was
-- added, the number is that of all lines that say that the dump began.
abbrev pub BeginsIn : {F : Type 0} → WholeFileKind F → PlainBegun → List ℕ → F → F → Result ℕ EnterFault → Type 0
BeginsIn k line bytes old new (Ok begun) = (lines : List CatalogLine) × SpellsCatalog bytes lines
    × HasBegun line.id (lines ++ Begun line ∷ []) begun × k.takes old (bytes ++ line_text (Begun line)) (Ok tt) new
BeginsIn {F} k line bytes old new (Err Unwritten) = (lines : List CatalogLine) × SpellsCatalog bytes lines
    × ((failed : FileFailed) × k.takes old (bytes ++ line_text (Begun line)) (Err failed) new)
BeginsIn k line bytes old new (Err (Catalog fault)) = (new ≡ old) × HasCatalogFault bytes fault
BeginsIn k line bytes old new (Err Unread) = ⊥

-- `old` was read, and then the line of a dump that begins was entered. `new` is the file after that.
-- A file that does not exist is empty. If it could not be read, it is unchanged after the read.
abbrev pub IsBegunEntered : {F : Type 0} → WholeFileKind F → PlainBegun → F → F → Result ℕ EnterFault → Type 0
IsBegunEntered {F} k line old new result =
    ((bytes : Option (List ℕ)) × (between : F) × k.gives old (Ok bytes) between × BeginsIn k line (unwrap_or bytes []) between new result)
    ⊎ ((failed : FileFailed) × k.gives old (Err failed) new × (result ≡ Err Unread))
