-- The dump of a catalog that `rdump cat` restores. Public contracts cite it.
use Rattle.std.specs.Prelude.{◌≡◌, List, Some, None}
use Rattle.dump_run.specs.DumpId.{PlainId}
use Rattle.catalog.specs.DumpLines.{PlainFinished}
use Rattle.catalog.specs.Run.{Begins, HasNone, IsFinishedBy, IsRunIn}
use Rattle.catalog.specs.declared.line.CatalogLine.{CatalogLine}
use Rattle.catalog.specs.declared.run.CatalogRun.{CatalogRun}
use Rattle.restore.specs.Restored.{PlainWanted}
use Rattle.rdump_cat.specs.declared.known_dump.NotKnown.{NotKnown}
use Rattle.rdump_cat.specs.declared.known_dump.NotKnown.TheVariants.{NoDump, NotFinished}

-- The line says that the dump is finished. It follows the last line with which the dump began, and
-- no line of a volume of the dump follows it.
abbrev pub IsFinishedIn : List CatalogLine → PlainId → PlainFinished → Type 0
IsFinishedIn lines id f = (run : CatalogRun) × IsRunIn lines id (Some run) × IsFinishedBy run.after.now run.begun.now.id f

-- why a dump of this catalog cannot be restored: no line says that it began, or none that it is
-- finished
abbrev pub IsNotKnown : List CatalogLine → PlainId → NotKnown → Type 0
IsNotKnown lines id NoDump = HasNone (Begins id) lines
IsNotKnown lines id NotFinished = (run : CatalogRun) × IsRunIn lines id (Some run) × ((f : PlainFinished) → IsFinishedBy run.after.now run.begun.now.id f → ⊥)

-- the dump that is wanted, if the catalog says that it is finished
abbrev pub wanted_by : List CatalogLine → PlainId → PlainFinished → PlainWanted
wanted_by lines id f =
    record { name = Some id.name; level = Some id.level; date = Some id.date; length = f.bytes; volumes = Some f.volumes; lines = Some lines }

-- No line of the catalog says that the dump began.
abbrev pub IsNoDump : List CatalogLine → PlainId → NotKnown → Type 0
IsNoDump lines id why = (why ≡ NoDump) × HasNone (Begins id) lines

-- What is wanted of a dump of which parts may be missing: the length is that of the last line with
-- which the dump began.
abbrev pub ArePartsOf : List CatalogLine → PlainId → PlainWanted → Type 0
ArePartsOf lines id wanted = (run : CatalogRun) × IsRunIn lines id (Some run)
    × (wanted ≡ record { name = Some id.name; level = Some id.level; date = Some id.date; length = run.begun.now.bytes; volumes = None; lines = Some lines })
