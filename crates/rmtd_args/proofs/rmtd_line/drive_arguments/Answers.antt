use Rattle.rmtd_args.proofs.Words.{rules, codes, ap, map, List, ℕ, Bor, ◌∙◌, IfOk-weaker, found_of, raw_values-rows}
use Rattle.rmtd_args.proofs.rmtd_line.drive_arguments.Goals as goal

pub returns-in-Some : goal.returns-in-Some
returns-in-Some c =
    rw (← (c.in-Some.ensures ∙ raw_values-rows (found_of c.args.matches.now) (codes "drive")))
    (IfOk-weaker c.from_slice.result _ _ (λ v e. ap (map (λ (s : Bor (List ℕ)). s.now)) e) c.from_slice.ensures.items)

pub returns-in-None : goal.returns-in-None
returns-in-None c =
    rw (← (c.in-None.ensures ∙ raw_values-rows (found_of c.args.matches.now) (codes "drive"))) (search rules)
