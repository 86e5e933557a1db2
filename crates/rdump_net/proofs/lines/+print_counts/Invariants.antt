use Rattle.std.proofs.Common.{length}
use Rattle.rdump_net.proofs.lines.+print_counts.Given as goal

abbrev pub decreases-print_counts : goal.decreases-print_counts
decreases-print_counts g l = length l.counts.now
