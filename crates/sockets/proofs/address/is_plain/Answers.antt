use Rattle.std.proofs.Common.{sym, ◌∙◌}
use Rattle.sockets.proofs.Colon.{not_false, not_some}
use Rattle.sockets.proofs.address.is_plain.Goals as goal

pub returns-in-Some : goal.returns-in-Some
returns-in-Some c = ((λ yes. absurd (not_false yes)), λ has. absurd (not_some _ (sym c.in-Some.is ∙ c.find_byte.ensures.place ∙ has.0)))
