use Rattle.rmt_wire.proofs.print.print_text.Goals as goal

pub returns-in-Ok : goal.returns-in-Ok
returns-in-Ok g c = (c.in-Ok.ensures.written, c.in-Ok.ensures.steady)

pub returns-in-Err : goal.returns-in-Err
returns-in-Err g c = (c.in-Err.ensures.beginning, c.in-Err.ensures.fault)
