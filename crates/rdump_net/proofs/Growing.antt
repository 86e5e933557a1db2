-- A client that talks over a peer stays in its run and keeps its counts, and may have further ones after them.
use Rattle.rdump_net.proofs.Words.{◌≡◌, ℕ, List, [], ◌∷◌, ◌++◌, length, length-append, arith, Bool, true, false, Result, Ok, Err, refl, sym, ap, ◌∙◌, append-nil, append_assoc, Standing, VolumeCount, StartedAt, CutAt, ClientHeld, HasFed, NextRequestAt, AttemptFault, StartFault, Stage, Progress, Passed, IsPrefixOf, GoesOn, TalkStep, Talks, TalksOver, starts, stays, asks, has_none, hears, ends, answers, one_more}
use Rattle.dump_client.proofs.Going.{fed_goes_on, cut_goes_on}
use Rattle.rdump_net.specs.Talk.Talks.{none}

pub grown_none : (old new : List VolumeCount) → new ≡ old → IsPrefixOf old new
grown_none old new same = ([], same ∙ sym (append-nil old))

pub grown_both : (a b c : List VolumeCount) → IsPrefixOf a b → IsPrefixOf b c → IsPrefixOf a c
grown_both a b c (one, is) (two, then) = (one ++ two, then ∙ ap (λ l. l ++ two) is ∙ append_assoc a one two)

-- it is in the same run, and has the same counts and perhaps more
abbrev pub HasGone : Standing → Standing → Type 0
HasGone old new = (new.run ≡ old.run) × IsPrefixOf old.counts new.counts

gone_both : (a b c : Standing) → HasGone a b → HasGone b c → HasGone a c
gone_both a b c one two = (two.0 ∙ one.0, grown_both a.counts b.counts c.counts one.1 two.1)

-- its run and its counts are the same
gone_same : (old new : Standing) → (new.run ≡ old.run) × (new.counts ≡ old.counts) → HasGone old new
gone_same old new same = (same.0, grown_none old.counts new.counts same.1)

start_goes : (stage : Stage) (old new : Standing) (room : ℕ) (result : Result Unit StartFault) → StartedAt stage old room result new → HasGone old new
start_goes stage old new room result h = gone_same old new (grind arith)

ask_goes : (stage : Stage) (told : List (List ℕ) → Type 0) (old new : Standing) (capacity : ℕ) (now : List ℕ) (result : Result Bool AttemptFault)
    → NextRequestAt stage told old capacity [] result now new → HasGone old new
ask_goes stage told old new capacity now result h = gone_same old new (grind arith)

cut_goes : (at new : Standing) (progress : Progress) → CutAt at.stage at progress new → HasGone at new
cut_goes at new progress cut = let goes = cut_goes_on at new progress cut in (goes.run, ([], goes.counts))

go_goes : (made : Bool) (at new : Standing) (fed later : List ℕ) → GoesOn made at fed new later → HasGone at new
go_goes true at new fed later h = gone_same at new (ap (λ (s : Standing). s.run) h.0, ap (λ (s : Standing). s.counts) h.0)
go_goes false at new fed later (progress, cut, fresh) = cut_goes at new progress cut

step_goes : {told : List (List ℕ) → Type 0} {allows : Standing → Type 0} {old new : Standing} {fed later : List ℕ} {passed : List Passed}
    → TalkStep told allows old fed passed new later → HasGone old new
step_goes {old = old} {new = new} {fed = fed} {later = later} (starts room begun made allowed h goes) =
    gone_both old begun new (start_goes old.stage old begun room (Ok tt) h) (go_goes made begun new fed later goes)
step_goes {old = old} {new = new} (stays room fault h) = start_goes old.stage old new room (Err fault) h
step_goes {told} {old = old} {new = new} {fed = fed} {later = later} (asks capacity text asked whole h sent goes) =
    gone_both old asked new (ask_goes old.stage told old asked capacity text (Ok true) h) (go_goes whole asked new fed later goes)
step_goes {told} {old = old} {new = new} (has_none capacity result text h unmade) = ask_goes old.stage told old new capacity text result h
step_goes {old = old} {new = new} {fed = fed} (hears piece progress h) = let goes = fed_goes_on old new fed piece progress h in (goes.1.run, (goes.0, goes.1.counts))
step_goes {old = old} {new = new} (ends progress h) = cut_goes old new progress h
step_goes {old = old} {new = new} (answers answer result h) = gone_same old new (grind arith)

pub talk_goes : {told : List (List ℕ) → Type 0} {allows : Standing → Type 0} {old : Standing} {fed : List ℕ} {passed : List Passed} {new : Standing} {later : List ℕ}
    → Talks told allows old fed passed new later → HasGone old new
talk_goes {old = old} none = gone_same old old (refl, refl)
talk_goes {old = old} {new = new} (one_more {before = before} talks step) = gone_both old before new (talk_goes talks) (step_goes step)

-- a client that talked over a peer
pub talked_counts : {B P : Type 0} {holds : B → List (List ℕ) → Type 0} {allows : Standing → Type 0} {tells : P → List Passed → Type 0} {c c' : ClientHeld B} {p p' : P}
    → (bytes : List ℕ) × HasFed c bytes → TalksOver holds allows tells c c' p p' → IsPrefixOf c.at.counts c'.at.counts
talked_counts (bytes, fed) h = let goes = talk_goes (h.talked bytes fed).talks in goes.1

-- counts of which there are as many as before are those
pub grown_same : (old new : List VolumeCount) → IsPrefixOf old new → length new ≡ length old → new ≡ old
grown_same old new ([], is) e = is ∙ append-nil old
grown_same old new (c ∷ more, is) e = absurd (omega (arith, e, ap length is, length-append old (c ∷ more)))
