use Rattle.dumpdates.proofs.fields.moment_in.Goals as goal

pub returns-in_err-time : goal.returns-in_err-time
returns-in_err-time c =
    rw c.from_residual-in_err-time.ensures (λ f s. c.in_err-time.ensures f.moment.hour f.moment.minute f.moment.second s.time)
