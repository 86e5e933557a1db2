use Rattle.hold_table.proofs.Names.{ℕ, List, get_or, ap, sym, ◌∙◌}
use Rattle.hold_table.proofs.Ended.{ends}
use Rattle.hold_table.proofs.table.HoldTable.close.Goals as goal

pub returns : goal.returns
returns c =
    let last = c.close_with-closed.ensures.values.2 in
    ends _ _ _ _ _ last.0 last.1.0 last.1.1 c.gathered-company.ensures.gathered (λ d. c.words_of-words.ensures d ∙ sym (ap (λ (ws : List ℕ). get_or ws d 0) last.2))
