use Rattle.rmtd_args.proofs.rmtd_line.server_words.Goals as goal

pub returns-in-Ok-clause-line : goal.returns-in-Ok-clause-line
returns-in-Ok-clause-line c = c.in-Ok.ensures.line
