use Rattle.std.proofs.Common.{refl}
use Rattle.std.specs.Prelude.{Contains}
use Rattle.rdump_list.specs.DumpFound.{HasVolume}
use Rattle.rdump_list.proofs.Ranges.{same_missing}
use Rattle.rdump_list.proofs.catalog_dump.run_found.Goals as goal

pub returns-in_ok-missing-in-Some : goal.returns-in_ok-missing-in-Some
returns-in_ok-missing-in-Some c = (
  c.in-Some.finished.now,
  c.in-Some.ensures.some,
  same_missing (Contains c.in_ok-there-in-Some.there.items) (HasVolume c.args.run.now c.args.reels.now) c.in-Some.finished.now.volumes
      c.in_ok-missing-in-Some.missing.items c.in_ok-there-in-Some.ensures (rw (c.deref.ensures.value, c.volumes.ensures.told) at c.in_ok-missing-in-Some.ensures),
)

pub returns-in-None : goal.returns-in-None
returns-in-None c = c.in-None.ensures.none refl
