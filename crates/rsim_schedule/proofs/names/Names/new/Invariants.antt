use Rattle.rsim_schedule.proofs.Words.{left_in}
use Rattle.rsim_schedule.proofs.names.Names.new.Given as goal

abbrev pub decreases-loop-field : goal.decreases-loop-field
decreases-loop-field l = left_in l.fields.rest
