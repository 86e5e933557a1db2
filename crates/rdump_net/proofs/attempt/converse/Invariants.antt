use Rattle.rdump_net.proofs.Words.{[], FromNone, Observes, TalksOver}
use Rattle.rdump_net.proofs.attempt.converse.Given as goal

abbrev pub invariant-loop : goal.invariant-loop
invariant-loop g l = record {
  talks : TalksOver g.B.Blocks.holds FromNone g.P.Peer.tells l.fn.client l.client l.fn.peer l.peer;
  observed : Observes g.O.DumpObserver.logs g.O.DumpObserver.can_stop l.fn.observer l.observer [];
}
