-- Facts that most proofs use.
use Rattle.std.specs.Result.{IsErrAnd}
use Rattle.std.proofs.Common.{◌≡◌, List, [], ◌++◌, Result, Ok, Err, sym, ap, subst, append-nil, append_assoc}

-- a result that is a fault is that one
pub is_fault : {X E : Type 0} {result : Result X E} {fault : E} → IsErrAnd result (λ e. e ≡ fault) → result ≡ Err fault
is_fault {result = Ok x} is = absurd is
is_fault {result = Err e} is = ap (λ f. Err f) is

-- what is appended to a log: what passed at a peer, the events of a dump
module _ {A X : Type 0} (holds : A → List X → Type 0) where
  -- nothing is appended where nothing is done
  pub alone : (a : A) (log : List X) → holds a log → holds a (log ++ [])
  alone a log h = subst (holds a) (sym (append-nil log)) h

  -- what is appended, and then more
  pub both : {a b c : A} {one two : List X} → ((log : List X) → holds a log → holds b (log ++ one)) → ((log : List X) → holds b log → holds c (log ++ two))
      → (log : List X) → holds a log → holds c (log ++ (one ++ two))
  both {c = c} {one = one} {two = two} h k log t = subst (holds c) (append_assoc log one two) (k (log ++ one) (h log t))
