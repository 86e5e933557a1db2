use Rattle.drives.specs.Calls.StacksCall.{Latch, LayBack, Move}
use Rattle.drives.proofs.Elsewhere.{latched_in}
use Rattle.drives.proofs.Lying.{lying, same_drives}
use Rattle.drives.proofs.laws.lying_troubles.Goals as goal

pub returns : goal.returns
returns c = record {
  latched = λ old new d result l. lying old new (Latch d result) l;
  laid_back = λ old new d reel at. lying old new (LayBack d reel) (at.0, latched_in old at.1 d at.2 at.3);
  moved = λ old new d reel result at. lying old new (Move d reel result) (at.0, latched_in old at.1 d at.2 at.3);
  same_drives = same_drives;
}
