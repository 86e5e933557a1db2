use Rattle.hold_table.proofs.Names.{cond, eqb, eq-eqb, ne_eqb, inl, inr, refl, ap, dite, ℕ_discrete, Take, Give, Look}
use Rattle.hold_table.proofs.Moved.{known_holder, steps_move}
use Rattle.hold_table.proofs.laws.holders_move.Goals as goal

pub returns-clause-known : goal.returns-clause-known
returns-clause-known c = known_holder

pub returns-clause-takes : goal.returns-clause-takes
returns-clause-takes c = λ d made found old new. steps_move Take d made found (cond (eqb found 0) old.number found) old new (dite (ℕ_discrete found 0)
    (λ free. inl (free, ap (λ b. cond b old.number found) (eq-eqb found 0 free)))
    (λ busy. inr (busy, ap (λ b. cond b old.number found) (ne_eqb found 0 busy))))

pub returns-clause-gives : goal.returns-clause-gives
returns-clause-gives c = λ d made old new. steps_move Give d made old.number 0 old new (refl, refl)

pub returns-clause-looks : goal.returns-clause-looks
returns-clause-looks c = λ d made found old new. steps_move Look d made found found old new refl
