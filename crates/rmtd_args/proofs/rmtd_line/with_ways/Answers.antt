use Rattle.rmtd_args.proofs.Words.{ap₂, codes, ◌∙◌, IfOk-weaker, new_app, with_rule, flag_rule, with_version}
use Rattle.rmtd_args.proofs.rmtd_line.with_ways.Goals as goal

pub returns : goal.returns
returns c =
    c.with_option.ensures (with_rule (with_version (new_app (codes "rmtd"))) (flag_rule (codes "stdio")))
    (IfOk-weaker c.arg.result _ _
    (λ _ added. added.shape c.flag-stdio.ensures.local ∙ ap₂ with_rule c.named.ensures c.flag-stdio.ensures.rule)
    c.arg.ensures)
