use Rattle.std.proofs.Common.{rules}
use Rattle.hold_table.proofs.Allowed.{opens}
use Rattle.hold_table.proofs.table.HoldTable.laid.Goals as goal

pub of_words-requires : goal.of_words-requires
of_words-requires c = opens _ _ c.requires.few (search rules)
