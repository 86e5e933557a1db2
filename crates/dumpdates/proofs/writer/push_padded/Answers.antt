use Rattle.dumpdates.proofs.Terms.{arith, append_assoc, length, common_steps}
use Rattle.dumpdates.proofs.Writing.{spaces_left}
use Rattle.dumpdates.proofs.writer.push_padded.Goals as goal

pub returns : goal.returns
returns c = grind (arith, common_steps, append_assoc, spaces_left (length c.args.name.now) 32, c.extend_from_slice-2.ensures.items)
