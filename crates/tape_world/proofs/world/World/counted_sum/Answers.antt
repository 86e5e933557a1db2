use Rattle.tape_world.proofs.Files.{summed_files}
use Rattle.tape_world.proofs.world.World.counted_sum.Goals as goal

pub returns : goal.returns
returns g c =
    summed_files c.args.self.now c.args.run.now c.args.count (g.B.Blocks.holds c.args.source.now) c.sum.result c.kept.ensures.counted_sums c.sum.ensures
