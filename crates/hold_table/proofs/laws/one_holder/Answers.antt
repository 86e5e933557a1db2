use Rattle.hold_table.proofs.Names.{◌≡◌, ⊎_elim, true, false, sym, ◌∙◌, has}
use Rattle.hold_table.proofs.laws.one_holder.Goals as goal

pub returns : goal.returns
returns c = λ words seats d j k rule inside one two. ⊎_elim
    (λ free. let no : has one.0.view d ≡ false = free.1 j one.0 one.1 in let yes : has one.0.view d ≡ true = one.2 in absurd cc)
    (λ held. rule.distinct j k one.0 two.0 one.1 two.1 ((held.1 j one.0 one.1).1 one.2 ∙ sym ((held.1 k two.0 two.1).1 two.2)))
    (rule.held d inside)
