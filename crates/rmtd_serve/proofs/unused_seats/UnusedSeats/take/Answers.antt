use Rattle.std.proofs.Common.{arith}
use Rattle.std.proofs.lemmas.Grind.{elements}
use Rattle.rmtd_serve.proofs.unused_seats.UnusedSeats.take.Goals as goal

pub invariant_of-self : goal.invariant_of-self
invariant_of-self g c = grind (arith, elements)

pub invariant_of-self-2 : goal.invariant_of-self-2
invariant_of-self-2 g c = grind (arith, elements)

pub new-requires-clause-seat : goal.new-requires-clause-seat
new-requires-clause-seat g c = grind (arith, elements)

pub new-requires-clause-idle : goal.new-requires-clause-idle
new-requires-clause-idle g c = grind (arith, elements)

pub new-requires-clause-enough : goal.new-requires-clause-enough
new-requires-clause-enough g c = grind (arith, elements)
