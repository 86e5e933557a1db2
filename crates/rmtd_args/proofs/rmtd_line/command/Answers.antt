use Rattle.rmtd_args.proofs.Words.{◌≡◌, ap₂, codes, subst, IfOk, ◌∙◌, IfOk-weaker, app_of, with_rule, app, app_with_limits, option_rule}
use Rattle.rmtd_args.proofs.rmtd_line.command.Goals as goal

pub returns-in-Ok : goal.returns-in-Ok
unfolding app
returns-in-Ok c =
    let e : app_of c.in-Ok.command ≡ with_rule app_with_limits (option_rule (codes "bin")) =
    subst (λ r. IfOk r (λ x. app_of x ≡ with_rule app_with_limits (option_rule (codes "bin")))) c.in-Ok.is
    (c.with_option.ensures app_with_limits c.with_limits.ensures) in
    IfOk-weaker c.arg.result _ _ (λ _ added. added.shape c.drives.ensures.local ∙ ap₂ with_rule e c.drives.ensures.rule) c.arg.ensures
