use Rattle.rdump_fetch.specs.Copy.{copy_kind}
use Rattle.rdump_fetch.proofs.Fetching.{taken_away_only_if_copied}
use Rattle.rdump_fetch.proofs.fetch.fetch_reel.Goals as goal

pub returns-clause-kept : goal.returns-clause-kept
returns-clause-kept g c =
    taken_away_only_if_copied (copy_kind g.F.CopyFile.holds g.F.CopyFile.synced g.F.CopyFile.placed g.F.CopyFile.kept) c.compared_volume.ensures.passes
    c.compared_volume.ensures.kept _ _ _ _ _ c.copy_volume.ensures.kept
