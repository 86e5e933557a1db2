use Rattle.rdump_net.proofs.Printing.{streams_kept, volume_copied}
use Rattle.rdump_net.proofs.volume.copy_out.Goals as goal

pub returns : goal.returns
returns g c =
    let keeps = streams_kept _ g.F.Write.contents g.W.Write.contents _ _ _ _ _ _ c.copy_volume.ensures.read in
    record { same_file = keeps.file; same_out = keeps.out; copied = volume_copied _ g.F.Write.contents g.W.Write.contents _ _ _ _ _ _ c.copy_volume.ensures.read }
