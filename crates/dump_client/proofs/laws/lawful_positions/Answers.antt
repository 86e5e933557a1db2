use Rattle.dump_client.proofs.Stands.{stands}
use Rattle.dump_client.proofs.laws.lawful_positions.Goals as goal

pub returns-clause-stands : goal.returns-clause-stands
returns-clause-stands c = stands
