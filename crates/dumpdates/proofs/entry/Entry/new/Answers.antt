use Rattle.std.proofs.Common.{IsTrue, refl, arith}
use Rattle.dumpdates.proofs.entry.Entry.new.Goals as goal

pub returns-then-not-is_name-clause-given : goal.returns-then-not-is_name-clause-given
returns-then-not-is_name-clause-given c = (
  λ some. absurd cc,
  λ e. (let is : IsTrue c.is_name.result = c.is_name.ensures.name.1 (rw c.as_bytes.ensures.value e.name) in absurd (grind (arith, c.then-not-is_name.either))),
)

pub returns-clause-value : goal.returns-clause-value
returns-clause-value c = refl
