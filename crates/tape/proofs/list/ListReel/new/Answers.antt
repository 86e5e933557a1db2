use Rattle.tape.proofs.Words.{[], sym, tape}
use Rattle.tape.proofs.Held.{held_is, held_seen, none_held}
use Rattle.tape.proofs.list.ListReel.new.Goals as goal

pub invariant_of-result : goal.invariant_of-result
invariant_of-result c = held_seen c.open.result (tape [] []) (none_held c.open.result (rw c.open.ensures.medium c.new.ensures.told) c.open.ensures.offset)

pub returns-clause-blank : goal.returns-clause-blank
returns-clause-blank c = sym (held_is c.open.result (tape [] []) (none_held c.open.result (rw c.open.ensures.medium c.new.ensures.told) c.open.ensures.offset))
