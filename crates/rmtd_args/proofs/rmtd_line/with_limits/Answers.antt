use Rattle.rmtd_args.proofs.Words.{codes, with_rule, app_with_ways, option_rule}
use Rattle.rmtd_args.proofs.rmtd_line.with_limits.Goals as goal

pub returns : goal.returns
returns c =
    let sized = with_rule app_with_ways (option_rule (codes "capacity")) in
    let counted = with_rule sized (option_rule (codes "connections")) in
    c.with_option.ensures counted
    (c.with_option-counted.ensures sized (c.with_option-sized.ensures app_with_ways c.with_ways.ensures))
