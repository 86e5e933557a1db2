use Rattle.rmtd_args.proofs.Words.{◌≡◌, ap₂, subst, IfOk, ◌∙◌, IfOk-weaker, app_of, with_rule}
use Rattle.rmtd_args.proofs.rmtd_line.with_option.Goals as goal

pub returns-in-Ok : goal.returns-in-Ok
returns-in-Ok c = λ a h.
    let e : app_of c.in-Ok.command ≡ a = subst (λ r. IfOk r (λ x. app_of x ≡ a)) c.in-Ok.is h in
    IfOk-weaker c.arg.result _ _ (λ _ added. added.shape c.valued.ensures.local ∙ ap₂ with_rule e c.valued.ensures.rule) c.arg.ensures
