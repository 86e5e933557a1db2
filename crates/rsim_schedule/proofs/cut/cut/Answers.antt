use Rattle.rsim_schedule.proofs.Words.{◌≡◌, ◌==◌, ◌+◌, ◌∷◌, ◌++◌, sym, ap, ◌∙◌, take, drop, get_or, take-append-drop, drop_more, take_rest}
use Rattle.std.proofs.lemmas.List.Quantifiers.{position-Some}
use Rattle.std.proofs.lemmas.Map.Views.{exact_unsigned_eq}
use Rattle.rsim_schedule.proofs.cut.cut.Goals as goal

pub returns-in-Some-clause-cut : goal.returns-in-Some-clause-cut
returns-in-Some-clause-cut c =
    let at = c.in-Some.at in
    let text = c.args.text.now in
    let found = position-Some (λ b. b == c.args.byte) text at 0 (sym c.find_byte.ensures.place ∙ c.in-Some.is) in
    let is : get_or text at 0 ≡ c.args.byte = exact_unsigned_eq (get_or text at 0) c.args.byte found.1 in
    ap (λ l. take at text ++ c.args.byte ∷ l) (take_rest text (at + 1))
    ∙ (ap (λ l. take at text ++ l) (sym (drop_more text at 0 found.0 ∙ ap (λ b. b ∷ drop (at + 1) text) is)) ∙ take-append-drop at text)
