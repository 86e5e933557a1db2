use Rattle.rdump_net.proofs.Words.{take, drop, Observes, told_of}
use Rattle.rdump_net.proofs.rounds.tell_counts.Given as goal

-- the observer was told of the counts so far
abbrev pub invariant-loop-count : goal.invariant-loop-count
invariant-loop-count g l = Observes g.O.DumpObserver.logs g.O.DumpObserver.can_stop l.fn.observer l.observer (told_of (take l.count-index (drop l.fn.before l.fn.client.at.counts)))
