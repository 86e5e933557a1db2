use Rattle.hold_table.proofs.table.HoldTable.+holder_among.Given as goal

abbrev pub decreases-holder_among : goal.decreases-holder_among
decreases-holder_among l = l.others.now.len
