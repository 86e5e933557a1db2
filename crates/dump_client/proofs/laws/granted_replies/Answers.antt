use Rattle.dump_client.proofs.Order.{granted_when_counted}
use Rattle.dump_client.proofs.laws.granted_replies.Goals as goal

pub returns-clause-counted : goal.returns-clause-counted
returns-clause-counted c = granted_when_counted
