-- Who holds a drive, and what a step does to it.
use Rattle.hold_table.proofs.Names.{◌≡◌, inl, inr, ℕ, ◌<◌, ◌≤◌, List, length, get_or, set, length-set, get_or-set_at, get_or-set_other, sym, ◌∙◌, subst₂, arith}
use Rattle.hold_table.proofs.Names.{SEAT_LIMIT, StepKind, View, Seated, IsHolder, HoldRule}
use Rattle.hold_table.specs.Moves.{Moves, StepMoves}

-- a drive is held by one number
one_number : (seats : List Seated) (d m n : ℕ) → IsHolder seats d m → IsHolder seats d n → m ≡ n
one_number seats d m n (inl a) (inl b) = a.0 ∙ sym b.0
one_number seats d m n (inl a) (inr b) = let t = b.0 in let no = a.1 t.0 t.1 t.2 in let yes = (b.1 t.0 t.1 t.2).0 t.3 in absurd cc
one_number seats d m n (inr a) (inl b) = let t = a.0 in let no = b.1 t.0 t.1 t.2 in let yes = (a.1 t.0 t.1 t.2).0 t.3 in absurd cc
one_number seats d m n (inr a) (inr b) = let t = a.0 in sym t.3 ∙ (b.1 t.0 t.1 t.2).1 ((a.1 t.0 t.1 t.2).0 t.3)

-- a holder's number is at most SEAT_LIMIT, and is the drive's word
pub known_holder : (words : List ℕ) (seats : List Seated) (d n : ℕ) → HoldRule words seats → d < length words → IsHolder seats d n
    → (n ≤ SEAT_LIMIT) × (get_or words d 0 ≡ n)
known_holder words seats d n rule inside is = (grind (arith, rule.ranged), one_number seats d (get_or words d 0) n (rule.held d inside) is)

-- a step moves its drive from the number that it finds to the one that it leaves, and no other drive
pub steps_move : (kind : StepKind) (d made found left : ℕ) (old new : View) → Moves kind old.number found left → StepMoves kind d old made found left new
steps_move kind d made found left old new moves step e n m within was is =
    let size : length (set step.words d left) ≡ length step.words = length-set step.words d left in
    let before : get_or step.words e 0 ≡ n = (known_holder step.words step.seats e n step.before within was).1 in
    let after : get_or (set step.words d left) e 0 ≡ m = (known_holder (set step.words d left) _ e m step.after (omega arith) is).1 in (
      (λ same. subst₂ (Moves kind old.number) (grind arith) (grind (arith, get_or-set_at)) moves),
      (λ other. grind (arith, get_or-set_other)),
    )
