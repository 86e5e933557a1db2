use Rattle.rdump_net.proofs.Words.{kept_ends, kept_kind}
use Rattle.rdump_net.proofs.Keeping.{KeptSoFar}
use Rattle.rdump_net.proofs.kept.dump_to_conclusion.Given as goal

abbrev pub invariant-loop : goal.invariant-loop
invariant-loop g l = record {
  kept : KeptSoFar (kept_kind g.B.Blocks.holds g.P.Peer.tells g.W.Write.contents g.O.DumpObserver.logs)
      (kept_ends l.fn.client l.fn.peer l.fn.out l.fn.observer) (kept_ends l.client l.peer l.out l.observer) l.kept;
  quiet : g.O.DumpObserver.can_stop l.observer → g.O.DumpObserver.can_stop l.fn.observer;
}
