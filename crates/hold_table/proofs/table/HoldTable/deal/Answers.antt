use Rattle.hold_table.proofs.Names.{rules, ap, arith}
use Rattle.hold_table.proofs.Allowed.{deals}
use Rattle.hold_table.proofs.Dealt.{dealt_idle, dealt_lone}
use Rattle.hold_table.proofs.table.HoldTable.deal.Goals as goal

pub split_seat-next-requires : goal.split_seat-next-requires
split_seat-next-requires c = let more = c.loop-dealt-test.true in
    (grind arith, c.self.invariant.1, deals _ _ _ _ (ap (λ m. m.0) c.loop-dealt.invariant.2) (omega arith))

pub returns-clause-idle : goal.returns-clause-idle
returns-clause-idle c = dealt_idle _ _ (search rules)

pub returns-clause-lone : goal.returns-clause-lone
returns-clause-lone c = dealt_lone c.args.self.now _ (search rules)
