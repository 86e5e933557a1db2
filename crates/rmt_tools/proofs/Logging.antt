-- The log that a peer in memory keeps.
use Rattle.std.proofs.Common.{◌≡◌, ℕ, ◌+◌, ◌-◌, ◌^◌, ◌<◌, ◌≤◌, min, Bool, true, false, List, [], ◌∷◌, ◌++◌, replicate, map, take, length, length-take, refl, sym, ap, subst, ◌∙◌, append-nil, append_assoc, arith}
use Rattle.std.proofs.lemmas.List.{replicate_more}
use Rattle.remote_tape.specs.Peer.{Logs, given}
use Rattle.remote_tape.specs.declared.peer.Passed.{Passed}
use Rattle.remote_tape.specs.declared.peer.Passed.TheVariants.{Given, Ended}
use Rattle.rmt_tools.specs.Telling.{KeptLog, kept_log, IsLogOf, events_if}

-- one end more
pub one_end : (kept : KeptLog) (passed : List Passed) (before ends : ℕ) → kept_log passed before ≡ kept → ends ≡ min (before + 1) (2 ^ 64 - 1)
    → (log : List Passed) → IsLogOf kept log → IsLogOf (kept_log passed ends) (log ++ Ended ∷ [])
one_end kept passed before ends view e log h =
    let (n, is, at) = subst (λ k. IsLogOf k log) (sym view) h in (
      n + 1,
      ap (λ l. l ++ Ended ∷ []) is ∙ append_assoc passed (replicate n Ended) (Ended ∷ []) ∙ ap (λ l. passed ++ l) (replicate_more n Ended),
      omega (arith, e, at),
    )

none_behind : (n : ℕ) → 0 ≡ min n (2 ^ 64 - 1) → n ≡ 0
none_behind n e = omega (arith, e)

-- this is logged after what passed, where no ends stand there
pub logged : (kept : KeptLog) (passed : List Passed) (ends : ℕ) (after more : List Passed) → kept_log passed ends ≡ kept → kept.ends ≡ 0 → after ≡ passed ++ more
    → (log : List Passed) → IsLogOf kept (log ++ []) → IsLogOf (kept_log after ends) (log ++ more)
logged kept passed ends after more view none all log h =
    let zero : ends ≡ 0 = ap (λ (k : KeptLog). k.ends) view ∙ none in
    let (n, is, at) = subst (λ k. IsLogOf k (log ++ [])) (sym view) h in
    let start : n ≡ 0 = none_behind n (sym zero ∙ at) in
    let same : log ≡ passed = sym (append-nil log) ∙ is ∙ ap (λ m. passed ++ replicate m Ended) start ∙ append-nil passed in
    (0, ap (λ l. l ++ more) same ∙ sym all ∙ sym (append-nil after), zero)

-- nothing is logged
pub refused : (kept : KeptLog) (result : Bool) (more : List Passed) → result ≡ false
    → (log : List Passed) → IsLogOf kept (log ++ []) → IsLogOf kept (log ++ events_if result more)
refused kept result more e log h = subst (λ r. IsLogOf kept (log ++ events_if r more)) (sym e) h

module _ (old between new : KeptLog) (passed : List Passed) where
  -- what passes after nothing did
  pub after_none : Logs IsLogOf old between [] → Logs IsLogOf between new passed → Logs IsLogOf old new passed
  after_none none some log h = some log (subst (IsLogOf between) (append-nil log) (none log h))

  -- the log is seen in another place
  pub from_seen : between ≡ old → Logs IsLogOf between new passed → Logs IsLogOf old new passed
  from_seen e logs = subst (λ k. Logs IsLogOf k new passed) e logs

module _ (old new : KeptLog) (result : Bool) (passed : List Passed) where
  -- nothing passes where a call was refused
  pub none_where : result ≡ false → Logs IsLogOf old new (events_if result passed) → Logs IsLogOf old new []
  none_where e logs = subst (λ r. Logs IsLogOf old new (events_if r passed)) e logs

  pub all_where : result ≡ true → Logs IsLogOf old new (events_if result passed) → Logs IsLogOf old new passed
  all_where e logs = subst (λ r. Logs IsLogOf old new (events_if r passed)) e logs

-- into room that there is none is given at the end, and else what is given
into_room : (room : List ℕ) → 0 < length room → given room [] ≡ Ended ∷ []
into_room [] some = absurd (omega (arith, some))
into_room (r ∷ room) some = refl

some_bytes : (r : ℕ) (room bytes : List ℕ) → 0 < length bytes → given (r ∷ room) bytes ≡ map Given bytes
some_bytes r room [] some = absurd (omega (arith, some))
some_bytes r room (b ∷ bytes) some = refl

some_given : (room : List ℕ) (n : ℕ) → n ≤ length room → (n ≡ 0 → ⊥) → given room (take n room) ≡ map Given (take n room)
some_given [] n within some = absurd (some (omega (arith, within)))
some_given (r ∷ room) n within some = some_bytes r room (take n (r ∷ room)) (omega (arith, length-take n (r ∷ room)))

module _ (old new : KeptLog) (room : List ℕ) where
  pub end_given : 0 < length room → Logs IsLogOf old new (Ended ∷ []) → Logs IsLogOf old new (given room [])
  end_given some logs = subst (Logs IsLogOf old new) (sym (into_room room some)) logs

  pub bytes_given : (n : ℕ) → n ≤ length room → (n ≡ 0 → ⊥) → Logs IsLogOf old new (map Given (take n room)) → Logs IsLogOf old new (given room (take n room))
  bytes_given n within some logs = subst (Logs IsLogOf old new) (sym (some_given room n within some)) logs

-- one call after another
pub after_some : (old between new : KeptLog) (one two : List Passed) → Logs IsLogOf old between one → Logs IsLogOf between new two → Logs IsLogOf old new (one ++ two)
after_some old between new one two first more log h = subst (IsLogOf new) (append_assoc log one two) (more (log ++ one) (first log h))
