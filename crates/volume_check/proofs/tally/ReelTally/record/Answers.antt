use Rattle.volume_check.proofs.Words.{◌∙◌, sym, ap, arith, Record}
use Rattle.volume_check.proofs.Blocks.{records_more, marks_more, records_bound}
use Rattle.volume_check.proofs.tally.ReelTally.record.Goals as goal

pub returns : goal.returns
returns c = λ entries fits tally.
    let held = rw (ap (λ t. t.holding) (sym c.self.view_is) ∙ sym c.replace-holding.ensures.value) at tally.holding in record {
      holding = c.with_record-self-inside.ensures entries fits held;
      records = omega (arith, ap (λ t. t.records) c.self.view_is, records_more entries (Record c.args.bytes.now), records_bound entries);
      marks = omega (arith, ap (λ t. t.marks) c.self.view_is, marks_more entries (Record c.args.bytes.now));
    }
