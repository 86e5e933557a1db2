use Rattle.world_model.proofs.Staying.{Laws}
use Rattle.world_model.proofs.FaultlessOrder.{first_faultless, faultless_after, in_order, runs_in_order}
use Rattle.world_model.proofs.order.faultless.Goals as goal

pub returns : goal.returns
returns c =
    let g : Laws = record {
      goings = (c.same_run.ensures.fed, c.same_run.ensures.cut);
      lawfully = (c.same_run.ensures.fed_lawful, c.same_run.ensures.cut_lawful, c.same_run.ensures.over_lawful);
      standings = (c.same_run.ensures.fed_stands, c.same_run.ensures.cut_stands);
      reading = c.one_reading.ensures.answers;
      dropped = c.dropped_writes.ensures;
      reply = c.one_reply.ensures;
    } in
    record { first = first_faultless; after = faultless_after g; in_order = in_order; runs = runs_in_order g }
