-- What a client does over a peer, put together.
use Rattle.rdump_net.proofs.Words.{◌≡◌, ◌≢◌, map, ℕ, List, [], ◌∷◌, ◌++◌, Bool, true, Result, Ok, refl, sym, subst, append-nil, append_assoc, arith, Standing, AnsweredAt, ClientHeld, HasFed, NextRequestAt, AttemptFault, StartFault, Answer, Stage, Logs, Passed, Given, Ended, FromNone, TalkStep, Talks, TalksAlone, TalksOver, starts, stays, asks, has_none, hears, ends, answers, one_more, alone, both}
use Rattle.rdump_net.specs.Talk.Talks.{none}

-- what holds for each payload of `told` holds for each of `less`, if these are payloads of `told` too
asked_weaker : (told less : List (List ℕ) → Type 0) → ((payload : List (List ℕ)) → less payload → told payload)
    → (stage : Stage) (old : Standing) (capacity : ℕ) (before : List ℕ) (result : Result Bool AttemptFault) (now : List ℕ) (new : Standing)
    → NextRequestAt stage told old capacity before result now new → NextRequestAt stage less old capacity before result now new
asked_weaker told less f stage old capacity before result now new h = grind arith

step_weaker : {told less : List (List ℕ) → Type 0} → ((payload : List (List ℕ)) → less payload → told payload)
    → {allows wider : Standing → Type 0} → ((at : Standing) → allows at → wider at)
    → {old new : Standing} {fed later : List ℕ} {passed : List Passed} → TalkStep told allows old fed passed new later → TalkStep less wider old fed passed new later
step_weaker f w {old} (starts room begun made a h k) = starts room begun made (w old a) h k
step_weaker f w (stays room fault h) = stays room fault h
step_weaker {told} {less} f w {old} (asks capacity text asked whole h sent k) =
    asks capacity text asked whole (asked_weaker told less f old.stage old capacity [] (Ok true) text asked h) sent k
step_weaker {told} {less} f w {old} {new} (has_none capacity result text h unmade) =
    has_none capacity result text (asked_weaker told less f old.stage old capacity [] result text new h) unmade
step_weaker f w (hears piece progress h) = hears piece progress h
step_weaker f w (ends progress h) = ends progress h
step_weaker f w (answers answer result h) = answers answer result h

pub talks_weaker : {told less : List (List ℕ) → Type 0} → ((payload : List (List ℕ)) → less payload → told payload)
    → {allows wider : Standing → Type 0} → ((at : Standing) → allows at → wider at)
    → {old : Standing} {fed : List ℕ} {passed : List Passed} {new : Standing} {later : List ℕ} → Talks told allows old fed passed new later → Talks less wider old fed passed new later
talks_weaker f w none = none
talks_weaker f w (one_more before step) = one_more (talks_weaker f w before) (step_weaker f w step)

pub joined : {told : List (List ℕ) → Type 0} {allows : Standing → Type 0} {a b : Standing} {fa fb : List ℕ} {one : List Passed} → Talks told allows a fa one b fb
    → {two : List Passed} {c : Standing} {fc : List ℕ} → Talks told allows b fb two c fc → Talks told allows a fa (one ++ two) c fc
joined {told} {allows} {a} {b} {fa} {fb} {one} first none = subst (λ passed. Talks told allows a fa passed b fb) (sym (append-nil one)) first
joined {told} {allows} {a} {b} {fa} {fb} {one} first {c = c} {fc = fc} (one_more {passed = passed} {more = more} before step) =
    subst (λ all. Talks told allows a fa all c fc) (append_assoc one passed more) (one_more (joined first before) step)

-- the source is the one that there was
pub kept_source : {B : Type 0} (holds : B → List (List ℕ) → Type 0) {x y : B} → y ≡ x → (payload : List (List ℕ)) → holds x payload → holds y payload
kept_source holds e payload h = subst (λ s. holds s payload) (sym e) h

module _ {B P : Type 0} {holds : B → List (List ℕ) → Type 0} {allows : Standing → Type 0} {tells : P → List Passed → Type 0} where
  -- one call of the client, with what passed in it
  pub one_call : {c c' : ClientHeld B} {p p' : P} {passed : List Passed} → ((payload : List (List ℕ)) → holds c.source payload → holds c'.source payload) → Logs tells p p' passed
      → ((fed : List ℕ) → HasFed c fed → (later : List ℕ) × TalkStep (holds c.source) allows c.at fed passed c'.at later × HasFed c' later) → TalksOver holds allows tells c c' p p'
  one_call {passed = passed} same logs call = record {
    same = same;
    talked = λ fed h. let one = call fed h in record { passed = passed; later = one.0; talks = one_more none one.1; keeps = one.2; logs = logs };
  }

  pub followed : {c d e : ClientHeld B} {p q r : P} → TalksOver holds allows tells c d p q → TalksOver holds allows tells d e q r → TalksOver holds allows tells c e p r
  followed {r = r} a b = record {
    same = λ payload h. b.same payload (a.same payload h);
    talked = λ fed h.
        let one = a.talked fed h in
        let two = b.talked one.later one.keeps in
        record {
          passed = one.passed ++ two.passed;
          later = two.later;
          talks = joined one.talks (talks_weaker a.same (λ at h. h) two.talks);
          keeps = two.keeps;
          logs = both tells one.logs two.logs;
        };
  }

  -- calls of the client while the peer is left alone
  pub by_itself : {c c' : ClientHeld B} {p : P} → TalksAlone holds c c' → TalksOver holds allows tells c c' p p
  by_itself {p = p} call = record {
    same = call.same;
    talked = λ fed h.
        let one = call.talked fed h in
        record { passed = []; later = one.0; talks = talks_weaker (λ payload t. t) (λ at t. absurd t) one.1; keeps = one.2; logs = alone tells p };
  }

  -- the connection is ended
  pub hung_up : {c : ClientHeld B} {p q : P} → Logs tells p q [] → TalksOver holds allows tells c c p q
  hung_up logs = record {
    same = λ payload h. h;
    talked = λ fed h. record { passed = []; later = fed; talks = none; keeps = h; logs = logs };
  }

  pub nothing_said : {c : ClientHeld B} {p : P} → TalksOver holds allows tells c c p p
  nothing_said {p = p} = hung_up (alone tells p)

  -- an attempt that starts nowhere
  pub from_nowhere : {c c' : ClientHeld B} {p p' : P} → TalksOver holds FromNone tells c c' p p' → TalksOver holds allows tells c c' p p'
  from_nowhere h = record {
    same = h.same;
    talked = λ fed k.
        let one = h.talked fed k in
        record { passed = one.passed; later = one.later; talks = talks_weaker (λ payload t. t) (λ at h. absurd h) one.talks; keeps = one.keeps; logs = one.logs };
  }

module _ {B : Type 0} {holds : B → List (List ℕ) → Type 0} where
  pub answered_alone : {c c' : ClientHeld B} (answer : Answer) (result : Result Unit StartFault) → AnsweredAt c.at.stage c.at answer result c'.at
      → ((fed : List ℕ) → HasFed c fed → HasFed c' fed) → c'.source ≡ c.source → TalksAlone holds c c'
  answered_alone answer result h fed e = record {
    same = λ payload told. subst (λ s. holds s payload) (sym e) told;
    talked = λ old k. (old, one_more none (answers answer result h), fed old k);
  }

  -- the client is left as it is
  pub left_alone : {c : ClientHeld B} → TalksAlone holds c c
  left_alone = record { same = λ payload told. told; talked = λ old k. (old, none, k) }
