use Rattle.rmtd_args.proofs.Words.{rules, codes, ◌∙◌, found_of, first_value-rows}
use Rattle.rmtd_args.proofs.rmtd_line.stdio_of.Goals as goal

pub returns-in-Some : goal.returns-in-Some
returns-in-Some c =
    rw (← (c.in-Some.ensures ∙ first_value-rows (found_of c.args.matches.now) (codes "stdio"))) (search rules)

pub returns-in-None : goal.returns-in-None
returns-in-None c =
    rw (← (c.in-None.ensures ∙ first_value-rows (found_of c.args.matches.now) (codes "stdio"))) (search rules)
