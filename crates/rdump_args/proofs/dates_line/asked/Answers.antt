use Rattle.rdump_args.proofs.dates_line.asked.Goals as goal

pub returns-in-Some : goal.returns-in-Some
returns-in-Some c = (c.is_name.ensures.0 c.if-is_name.true, c.in-Some.ensures.value.0)
