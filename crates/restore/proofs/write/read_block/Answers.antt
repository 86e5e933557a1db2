use Rattle.std.proofs.Common.{length-take, ◌+◌, arith}
use Rattle.restore.proofs.Writing.{block_read}
use Rattle.restore.proofs.write.read_block.Goals as goal

pub returns-then-is_framed-clause-read : goal.returns-then-is_framed-clause-read
returns-then-is_framed-clause-read g c = λ bytes held.
    (let (x, holds, (same, is)) = c.in-Ok.ensures.call.step bytes held in
    block_read c.read_at.new.into _ bytes c.args.at c.args.size c.in-Ok.count (omega (arith, length-take (c.args.size + 8) c.args.room.now)) (omega arith) is.1)
