use Rattle.rmt_wire.proofs.Words.{[], rules, subst, sym, held, Unread}
use Rattle.rmt_wire.proofs.Dropped.{unread_whole}
use Rattle.rmt_wire.proofs.request.reader.RequestReader.new.Goals as goal

pub returns : goal.returns
returns c = subst (λ l. Unread (held l 0) []) (sym (c.in_ok-with_capacity.ensures.items)) (unread_whole [])

pub invariant_of-result : goal.invariant_of-result
invariant_of-result c = search rules
