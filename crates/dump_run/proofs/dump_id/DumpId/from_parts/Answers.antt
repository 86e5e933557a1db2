use Rattle.dump_run.proofs.Words.{ap}
use Rattle.dump_run.specs.DumpId.{plain_id}
use Rattle.dump_run.proofs.dump_id.DumpId.from_parts.Goals as goal

pub returns : goal.returns
returns c = ap (λ name. plain_id name c.args.level c.args.date c.args.base) c.new.ensures
