use Rattle.hold_table.proofs.table.HoldTable.+take_among.Given as goal

abbrev pub decreases-take_among : goal.decreases-take_among
decreases-take_among l = l.others.now.len
