use Rattle.rdump_net.proofs.Words.{refl, kept_ends}
use Rattle.rdump_net.proofs.kept.dump_to_end.Goals as goal

pub returns-clause-ended : goal.returns-clause-ended
returns-clause-ended g c = record {
  middle = kept_ends c.dump_to_conclusion-conclusion.new.client c.dump_to_conclusion-conclusion.new.peer c.dump_to_conclusion-conclusion.new.out c.dump_to_conclusion-conclusion.new.observer;
  dumped = c.dump_to_conclusion-conclusion.ensures.kept;
  client = refl;
  peer = refl;
  settled = c.settle-status.ensures;
}
