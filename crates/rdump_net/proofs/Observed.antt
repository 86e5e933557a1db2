-- What an observer logs, put together.
use Rattle.rdump_net.proofs.Words.{◌≡◌, ℕ, List, [], ◌∷◌, ◌++◌, length, drop, map, refl, sym, ap, subst, ◌∙◌, append-nil, append_assoc, drop-append_seam, arith, VolumeCount, DumpEvent, Counted, Kept, Completed, Entered, Forgotten, AreTold, LogsOn, Observes, counts_of, entered_of, kept_of, told_of, IsPrefixOf, alone, both}
use Rattle.dump_run.specs.Checkpoint.{PlainCheckpoint}

pub counts_both : (one two : List DumpEvent) → counts_of (one ++ two) ≡ counts_of one ++ counts_of two
counts_both [] two = refl
counts_both (Counted count ∷ one) two = ap (λ l. count ∷ l) (counts_both one two)
counts_both (Kept checkpoint ∷ one) two = counts_both one two
counts_both (Completed b ∷ one) two = counts_both one two
counts_both (Entered run b ∷ one) two = counts_both one two
counts_both (Forgotten b ∷ one) two = counts_both one two

pub kept_both : (one two : List DumpEvent) → kept_of (one ++ two) ≡ kept_of one ++ kept_of two
kept_both [] two = refl
kept_both (Counted count ∷ one) two = kept_both one two
kept_both (Kept checkpoint ∷ one) two = ap (λ l. checkpoint ∷ l) (kept_both one two)
kept_both (Completed b ∷ one) two = kept_both one two
kept_both (Entered run b ∷ one) two = kept_both one two
kept_both (Forgotten b ∷ one) two = kept_both one two

pub entered_both : (one two : List DumpEvent) → entered_of (one ++ two) ≡ entered_of one ++ entered_of two
entered_both [] two = refl
entered_both (Counted count ∷ one) two = entered_both one two
entered_both (Kept checkpoint ∷ one) two = entered_both one two
entered_both (Completed b ∷ one) two = entered_both one two
entered_both (Entered run b ∷ one) two = ap (λ l. (run, b) ∷ l) (entered_both one two)
entered_both (Forgotten b ∷ one) two = entered_both one two

entered_told : (counts : List VolumeCount) → entered_of (told_of counts) ≡ []
entered_told [] = refl
entered_told (count ∷ counts) = entered_told counts

-- nothing is entered while counts are told
pub none_entered_told : (events : List DumpEvent) (counts : List VolumeCount) → entered_of events ≡ [] → entered_of (events ++ told_of counts) ≡ []
none_entered_told events counts none = entered_both events (told_of counts) ∙ ap (λ l. l ++ entered_of (told_of counts)) none ∙ entered_told counts

-- nothing is entered while a checkpoint is kept
pub none_entered_kept : (events : List DumpEvent) (checkpoint : PlainCheckpoint) → entered_of events ≡ [] → entered_of (events ++ Kept checkpoint ∷ []) ≡ []
none_entered_kept events checkpoint none = entered_both events (Kept checkpoint ∷ []) ∙ ap (λ l. l ++ []) none

counts_told : (counts : List VolumeCount) → counts_of (told_of counts) ≡ counts
counts_told [] = refl
counts_told (count ∷ counts) = ap (λ l. count ∷ l) (counts_told counts)

kept_told : (counts : List VolumeCount) → kept_of (told_of counts) ≡ []
kept_told [] = refl
kept_told (count ∷ counts) = kept_told counts

-- no checkpoint is kept while counts are told
pub kept_still_told : (events : List DumpEvent) (counts : List VolumeCount) → kept_of (events ++ told_of counts) ≡ kept_of events
kept_still_told events counts = kept_both events (told_of counts) ∙ ap (λ l. kept_of events ++ l) (kept_told counts) ∙ append-nil (kept_of events)

-- no count is told while a checkpoint is kept
pub told_still_kept : (first : List VolumeCount) (events : List DumpEvent) (checkpoint : PlainCheckpoint) (counts : List VolumeCount) → AreTold first events counts → AreTold first (events ++ Kept checkpoint ∷ []) counts
told_still_kept first events checkpoint counts told =
    told ∙ ap (λ l. first ++ l) (sym (counts_both events (Kept checkpoint ∷ []) ∙ append-nil (counts_of events)))

-- the counts so far, and then more, are told
pub told_more : (first : List VolumeCount) (events : List DumpEvent) (counts more : List VolumeCount) → AreTold first events counts → AreTold first (events ++ told_of more) (counts ++ more)
told_more first events counts more told =
    ap (λ l. l ++ more) told ∙ append_assoc first (counts_of events) more
    ∙ ap (λ l. first ++ l) (sym (counts_both events (told_of more) ∙ ap (λ l. counts_of events ++ l) (counts_told more)))

-- counts that are old ones with more after them
pub with_more : (old new : List VolumeCount) → IsPrefixOf old new → new ≡ old ++ drop (length old) new
with_more old new (more, is) = is ∙ ap (λ l. old ++ l) (sym (ap (drop (length old)) is ∙ drop-append_seam old more))

-- what an observer logs: nothing, and one list of events after another
module _ {O : Type 0} (logs : O → O → List DumpEvent → Type 0) where
  pub none_logged : (o : O) → LogsOn logs o o []
  none_logged o = λ first. alone (logs first) o

  pub both_logged : {o p q : O} {one two : List DumpEvent} → LogsOn logs o p one → LogsOn logs p q two → LogsOn logs o q (one ++ two)
  both_logged h k = λ first. both (logs first) (h first) (k first)

module _ {O : Type 0} {logs : O → O → List DumpEvent → Type 0} {can_stop : O → Type 0} where
  -- nothing happens
  pub observes_none : {o : O} → Observes logs can_stop o o []
  observes_none {o} = record { logged = none_logged logs o; quiet = λ h. h }

  -- one call of the observer
  pub observes_call : {o p : O} {events : List DumpEvent} → LogsOn logs o p events → (can_stop p → can_stop o) → Observes logs can_stop o p events
  observes_call told quiet = record { logged = told; quiet = quiet }

  -- events, and then more
  pub observes_both : {o p q : O} {one two : List DumpEvent} → Observes logs can_stop o p one → Observes logs can_stop p q two → Observes logs can_stop o q (one ++ two)
  observes_both h k = record { logged = both_logged logs h.logged k.logged; quiet = λ stop. h.quiet (k.quiet stop) }

  -- events, and then a call that logs nothing
  pub observes_then : {o p q : O} {one : List DumpEvent} → Observes logs can_stop o p one → Observes logs can_stop p q [] → Observes logs can_stop o q one
  observes_then {o} {q = q} {one = one} h k = subst (Observes logs can_stop o q) (append-nil one) (observes_both h k)

  -- nothing was counted
  pub observes_same : {o p : O} (old new : List VolumeCount) → new ≡ old → Observes logs can_stop o p [] → Observes logs can_stop o p (told_of (drop (length old) new))
  observes_same {o} {p} old new e h = subst (λ l. Observes logs can_stop o p (told_of l)) (sym (ap (drop (length old)) (e ∙ sym (append-nil old)) ∙ drop-append_seam old [])) h
