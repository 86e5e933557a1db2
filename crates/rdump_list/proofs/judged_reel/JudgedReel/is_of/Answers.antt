use Rattle.std.proofs.Common.{refl, rules}
use Rattle.rdump_list.proofs.There.{no_volume_by, volume_by}
use Rattle.rdump_list.proofs.judged_reel.JudgedReel.is_of.Goals as goal

pub returns-in-Some : goal.returns-in-Some
returns-in-Some c =
    volume_by c.args.run.now c.volume.result c.args.self.now c.in-Some.line.now c.are_same.result (search rules) c.volume.ensures.told
    c.in-Some.ensures.some.0 c.in-Some.ensures.some.1 (rw c.label.ensures at c.are_same.ensures)

pub returns-in-None : goal.returns-in-None
returns-in-None c = no_volume_by c.args.run.now c.volume.result c.args.self.now c.volume.ensures.told (c.in-None.ensures.none refl)
