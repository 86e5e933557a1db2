use Rattle.rdump_net.proofs.Words.{List, drop, length, subst, sym, ap, ◌∙◌, ◌≤◌, ◌≡◌, [], ◌∷◌, ◌++◌, take, take_all, take_more, map, VolumeCount, Observes, told_of, Counted}
use Rattle.std.proofs.lemmas.List.{map-append}
use Rattle.rdump_net.proofs.Observed.{observes_both, observes_call, observes_none}
use Rattle.rdump_net.proofs.rounds.tell_counts.Goals as goal

pub loop-count-init : goal.loop-count-init
loop-count-init g c = observes_none
