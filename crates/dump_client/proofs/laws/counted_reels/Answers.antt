use Rattle.dump_client.proofs.Reels.{exactly, stops}
use Rattle.dump_client.proofs.laws.counted_reels.Goals as goal

pub returns-clause-exactly : goal.returns-clause-exactly
returns-clause-exactly c = exactly

pub returns-clause-stops : goal.returns-clause-stops
returns-clause-stops c = stops
