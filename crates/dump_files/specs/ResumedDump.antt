-- A client that resumes a dump from its checkpoint. Public contracts cite it.
use Rattle.dump_run.specs.Run.{PlainRun, AreOfOneDump}
use Rattle.dump_files.specs.declared.resumed_dump.ResumedDumpFault.{ResumedDumpFault}
use Rattle.dump_files.specs.declared.resumed_dump.ResumedDumpFault.TheVariants.{OfAnother, OutOfMemory}

-- why a dump is not resumed: the run of its checkpoint, `kept`, is of another dump than this run; an
-- allocation can fail whatever the runs are
abbrev pub IsResumedDumpFault : PlainRun → PlainRun → ResumedDumpFault → Type 0
IsResumedDumpFault kept run OfAnother = AreOfOneDump kept run → ⊥
IsResumedDumpFault kept run OutOfMemory = Unit {0}
