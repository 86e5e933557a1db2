use Rattle.std.proofs.Common.{sym, subst}
use Rattle.restore.proofs.ComesBack.{comes_back}
use Rattle.restore.specs.Dumped.{AreTaken}
use Rattle.restore.proofs.laws.what_was_dumped_comes_back.Goals as goal

pub returns-clause-from_reels : goal.returns-clause-from_reels
returns-clause-from_reels c = λ run payload counts reels wanted bytes none is of covers there fits short restored.
    (let taken = subst (λ l. AreTaken l run payload counts) (sym none) (λ d has. tt) in
    comes_back c.one_holding.ensures run payload is of reels wanted bytes fits restored counts covers there taken short)

pub returns-clause-from_catalog : goal.returns-clause-from_catalog
returns-clause-from_catalog c = λ run payload counts reels wanted bytes lines some known is of covers there fits short restored.
    (let taken = subst (λ l. AreTaken l run payload counts) (sym some) known in
    comes_back c.one_holding.ensures run payload is of reels wanted bytes fits restored counts covers there taken short)
