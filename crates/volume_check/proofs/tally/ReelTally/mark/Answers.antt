use Rattle.volume_check.proofs.Words.{◌∙◌, sym, ap, arith, Mark}
use Rattle.volume_check.proofs.Blocks.{records_more, marks_more, marks_bound}
use Rattle.volume_check.proofs.tally.ReelTally.mark.Goals as goal

pub returns : goal.returns
returns c = λ entries fits tally.
    let held = rw (ap (λ t. t.holding) (sym c.self.view_is) ∙ sym c.replace-holding.ensures.value) at tally.holding in record {
      holding = c.with_mark-self-inside.ensures entries held;
      records = omega (arith, ap (λ t. t.records) c.self.view_is, records_more entries Mark);
      marks = omega (arith, ap (λ t. t.marks) c.self.view_is, marks_more entries Mark, marks_bound entries);
    }
