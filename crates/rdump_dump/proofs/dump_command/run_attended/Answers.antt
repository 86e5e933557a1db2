use Rattle.whole_files.specs.WholeFile.{whole_file}
use Rattle.rdump_dump.specs.declared.attendant.Attendant.{Attendant}
use Rattle.rdump_dump.proofs.Dates.{dates_ended}
use Rattle.rdump_dump.proofs.dump_command.run_attended.Goals as goal

pub returns-clause-dates : goal.returns-clause-dates
returns-clause-dates g c =
    dates_ended (whole_file g.F.WholeFile.gives g.F.WholeFile.takes)
    (λ (a : Attendant g.row.R.Denot g.row.T.Denot g.row.F.Denot g.row.R-Dir.Denot g.row.R-Reader.Denot g.row.R-Stream.Denot g.row.R-Listener.Denot). a.kept.dates)
    _ _ _ _ _ _ c.dump_to_end-end.ensures.ended
