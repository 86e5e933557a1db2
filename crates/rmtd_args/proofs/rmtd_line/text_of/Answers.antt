use Rattle.rmtd_args.proofs.Words.{◌∙◌, found_of, first_value-rows}
use Rattle.rmtd_args.proofs.rmtd_line.text_of.Goals as goal

pub returns : goal.returns
returns c = c.get_str.ensures ∙ first_value-rows (found_of c.args.matches.now) c.args.id.now
