use Rattle.std.proofs.Common.{rules, arith}
use Rattle.std.proofs.lemmas.Bool.Decides.{Decides-eqb}
use Rattle.std.proofs.lemmas.Slice.Eq.{slice_eq-Decides}
use Rattle.dump_run.proofs.run.Run.is_same_dump.Goals as goal

pub returns-then-self-other : goal.returns-then-self-other
returns-then-self-other c = (
  λ yes. (grind (arith, slice_eq-Decides Decides-eqb c.device.result.now c.device-2.result.now c.eq.result c.eq.ensures), search rules, search rules, search rules, search rules),
  λ its. search rules,
)
