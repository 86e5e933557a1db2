use Rattle.rmt_wire.proofs.WriteLines.{known_within}
use Rattle.rmt_wire.proofs.request.reader.line.line_of.Goals as goal

pub returns-then-is_some-clause-within : goal.returns-then-is_some-clause-within
returns-then-is_some-clause-within c = known_within c.args.known c.args.unread.now c.requires
