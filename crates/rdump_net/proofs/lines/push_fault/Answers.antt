use Rattle.rdump_net.proofs.Words.{codes, decimal, append_assoc}
use Rattle.rdump_net.proofs.lines.push_fault.Goals as goal

pub returns-in-CountedReel-clause-appended : goal.returns-in-CountedReel-clause-appended
returns-in-CountedReel-clause-appended c =
    rw (c.in-CountedReel.is, ← append_assoc c.args.line.now.bytes (codes "CountedReel ") (decimal c.in-CountedReel.volume), ← c.from-in-CountedReel.ensures) c.push_part-in-CountedReel.ensures.appended
