-- A dump with an observer, put together.
use Rattle.rdump_net.proofs.Words.{◌≡◌, ◌⊎◌, inl, inr, ℕ, List, [], ◌∷◌, ◌++◌, drop, length, Bool, true, Option, Some, None, refl, sym, ap, subst, ◌∙◌, append-nil, append_assoc, ExitStatus, Counting, IsPrinted, VolumeCount, Standing, ClientHeld, HasFed, Passed, FromAny, FromThis, Talks, TalksOver, DumpEvent, Counted, Kept, AreTold, LogsOn, counts_of, entered_of, kept_of, told_of, DumpLines, IsConclusion, IsDumped, IsFinish, IsPrefixOf, IsRound, conclusion_status, Conclusion, HasKept, IsDumpKept, IsKept, IsKeptConclusion, IsKeptUp, IsUnkept, KeptDump, KeptEnds, KeptKind, HasKeptTo, arith, asked, counted, failed, none, kept_ends, plain_checkpoint, unkept_line, alone, both}
use Rattle.dump_run.specs.Checkpoint.{PlainCheckpoint}
use Rattle.dump_run.specs.Run.{PlainRun}
use Rattle.rdump_net.specs.Talk.Talks.{none as no_talk}
use Rattle.rdump_net.specs.declared.conclusion.Conclusion.TheVariants as ends
use Rattle.rdump_net.specs.Keeping.KeptDump.{none as not_begun, then_talk, then_count, then_print, then_last, then_keep}
use Rattle.rdump_net.proofs.Growing.{HasGone, grown_both, grown_none, grown_same, talk_goes}
use Rattle.rdump_net.proofs.Observed.{both_logged, counts_both, kept_both, kept_still_told, none_entered_kept, none_entered_told, none_logged, told_more, told_still_kept, with_more}
use Rattle.rdump_net.proofs.Talking.{joined, talks_weaker}
use Rattle.rdump_net.proofs.Printed.{lines_both, nothing_printed, printed_both}

-- a client that went on and counted no more has the checkpoint that it had
kept_still : (events : List DumpEvent) (at new : Standing) → HasGone at new → Some (length new.counts) ≡ Some (length at.counts) → IsKept events at → IsKept events new
kept_still events at new goes many (before, put) =
    let same : new.counts ≡ at.counts = grown_same at.counts new.counts goes.1 (cc) in
    (before, put ∙ ap (λ (run : PlainRun). before ++ plain_checkpoint run at.counts ∷ []) (sym goes.0) ∙ ap (λ (counts : List VolumeCount). before ++ plain_checkpoint new.run counts ∷ []) (sym same))

-- a dump whose checkpoint is kept ends as one without a checkpoint can
kept_conclusion : (whole : Bool) (at : Standing) (last : List ℕ) (end : Conclusion) → IsConclusion whole at last end → IsKeptConclusion whole at last end
kept_conclusion whole at last end h = grind arith

pub never_unkept : (whole : Bool) (at : Standing) (last : List ℕ) (end : Conclusion) → IsConclusion whole at last end → end ≡ ends.Unkept → ⊥
never_unkept whole at last end h e = grind arith

-- the counts whose lines are printed are the old ones, and perhaps more
lines_grow : (a b : List VolumeCount) (text : List ℕ) → DumpLines a b text → IsPrefixOf a b
lines_grow a b text none = grown_none a b refl
lines_grow a b text (counted {counts = counts} {text = text'} more h) = grown_both a counts b (lines_grow a counts text' h) (more, refl)
lines_grow a b text (failed {text = text'} fault h) = lines_grow a b text' h
lines_grow a b text (asked {text = text'} h) = lines_grow a b text' h

round_grows : {W : Type 0} (contents : W → Option (List ℕ)) (first : List VolumeCount) (at : Standing) (out out' : Counting W) (result : Option Conclusion)
    → IsRound contents first at out out' result → IsPrefixOf first at.counts
round_grows contents first at out out' None h = lines_grow first at.counts h.0 h.1
round_grows contents first at out out' (Some end) h = lines_grow first at.counts h.text h.lines

-- the observer is told of the volumes that are counted and were not told yet
then_counts : {told : List (List ℕ) → Type 0} {start : Standing} {first : List ℕ} {passed : List Passed} {text : List ℕ} {events : List DumpEvent} {at : Standing} {fed : List ℕ} (more : List VolumeCount)
    → KeptDump told start first passed text [] events at fed → at.counts ≡ (start.counts ++ counts_of events) ++ more → KeptDump told start first passed text [] (events ++ told_of more) at fed
then_counts {told} {start} {first} {passed} {text} {events} {at} {fed} [] dump is = subst (λ l. KeptDump told start first passed text [] l at fed) (sym (append-nil events)) dump
then_counts {told} {start} {first} {passed} {text} {events} {at} {fed} (count ∷ more) dump is =
    let next : at.counts ≡ (start.counts ++ counts_of events ++ count ∷ []) ++ more = is ∙ sym (append_assoc (start.counts ++ counts_of events) (count ∷ []) more) in
    let so : at.counts ≡ (start.counts ++ counts_of (events ++ Counted count ∷ [])) ++ more =
    next ∙ ap (λ l. l ++ more) (append_assoc start.counts (counts_of events) (count ∷ [])) ∙ ap (λ l. (start.counts ++ l) ++ more) (sym (counts_both events (Counted count ∷ []))) in
    subst (λ l. KeptDump told start first passed text [] l at fed) (append_assoc events (Counted count ∷ []) (told_of more)) (then_counts more (then_count count dump (more, next)) so)

-- what was done so far; where `kept` counts the volumes of the client, the checkpoint that was kept last is its own
pub record IsOn {B P W O : Type 0} (k : KeptKind B P W O) (old new : KeptEnds B P W O) (text : List ℕ) (events : List DumpEvent) (kept : Option ℕ) (fed : List ℕ) : Type 0 where
  pub has : HasKept k old new text [] events fed
  pub last : kept ≡ Some (length new.client.at.counts) → IsKept events new.client.at

-- a dump so far, between two rounds
pub record KeptSoFar {B P W O : Type 0} (k : KeptKind B P W O) (old new : KeptEnds B P W O) (kept : Option ℕ) : Type 0 where
  pub text : List ℕ
  pub events : List DumpEvent
  pub same : (payload : List (List ℕ)) → k.holds old.client.source payload → k.holds new.client.source payload
  pub on : (fed : List ℕ) → HasFed old.client fed → IsOn k old new text events kept fed
  pub logs : LogsOn k.logs old.observer new.observer events
  pub counted : AreTold old.client.at.counts events new.client.at.counts
  pub unentered : entered_of events ≡ []
  pub lines : DumpLines old.client.at.counts new.client.at.counts text
  pub printed : IsPrinted k.contents text old.out new.out true

-- the client's calls are those of a dump without an observer
pub kept_talks : {told : List (List ℕ) → Type 0} {start : Standing} {first : List ℕ} {passed : List Passed} {text rest : List ℕ} {events : List DumpEvent} {at : Standing} {fed : List ℕ}
    → KeptDump told start first passed text rest events at fed → Talks told FromAny start first passed at fed
kept_talks not_begun = no_talk
kept_talks (then_talk before talks) = joined (kept_talks before) (talks_weaker (λ payload h. h) (λ at h. tt) talks)
kept_talks (then_count count before next) = kept_talks before
kept_talks (then_print line before told) = kept_talks before
kept_talks (then_last line before told) = kept_talks before
kept_talks (then_keep before lines) = kept_talks before

module _ {B P W O : Type 0} {k : KeptKind B P W O} where
  pub nothing_kept : {e : KeptEnds B P W O} → KeptSoFar k e e None
  nothing_kept {e} = record {
    text = [];
    events = [];
    same = λ payload h. h;
    on = λ fed h. record {
      has = record { passed = []; later = fed; dumped = not_begun; keeps = h; logs = alone k.tells e.peer };
      last = λ none. absurd (cc);
    };
    logs = none_logged k.logs e.observer;
    counted = sym (append-nil e.client.at.counts);
    unentered = refl;
    lines = none;
    printed = nothing_printed k.contents e.out;
  }

  -- what was done so far, with other texts and events
  abbrev has_now : {old new : KeptEnds B P W O} {old_text old_rest text rest fed : List ℕ} {old_events events : List DumpEvent} {out : Counting W} {observer : O} (h : HasKept k old new old_text old_rest old_events fed)
      → KeptDump (k.holds old.client.source) old.client.at fed h.passed text rest events new.client.at h.later → HasKept k old (kept_ends new.client new.peer out observer) text rest events fed
  has_now h dumped = record { passed = h.passed; later = h.later; dumped = dumped; keeps = h.keeps; logs = h.logs }

  module _ {old new : KeptEnds B P W O} {kept : Option ℕ} (s : KeptSoFar k old new kept) where
    -- nothing more is logged
    logged_still : {observer : O} → LogsOn k.logs new.observer observer [] → LogsOn k.logs old.observer observer s.events
    logged_still {observer} more = subst (LogsOn k.logs old.observer observer) (append-nil s.events) (both_logged k.logs s.logs more)

    -- the client's checkpoint is kept
    pub kept_up : {after : Option ℕ} {observer : O} → IsKeptUp k.logs (plain_checkpoint new.client.at.run new.client.at.counts) kept true after new.observer observer
        → KeptSoFar k old (kept_ends new.client new.peer new.out observer) after
    kept_up (e, inl (same, more)) = record {
      text = s.text;
      events = s.events;
      same = s.same;
      on = λ fed h. let one = s.on fed h in record { has = has_now one.has one.has.dumped; last = λ up. one.last same };
      logs = logged_still more;
      counted = s.counted;
      unentered = s.unentered;
      lines = s.lines;
      printed = s.printed;
    }
    kept_up (e, inr more) =
        let own = plain_checkpoint new.client.at.run new.client.at.counts in
        record {
          text = s.text;
          events = s.events ++ Kept own ∷ [];
          same = s.same;
          on = λ fed h. let one = s.on fed h in record { has = has_now one.has (then_keep one.has.dumped s.lines); last = λ up. (kept_of s.events, kept_both s.events (Kept own ∷ [])) };
          logs = both_logged k.logs s.logs more;
          counted = told_still_kept old.client.at.counts s.events own new.client.at.counts s.counted;
          unentered = none_entered_kept s.events own s.unentered;
          lines = s.lines;
          printed = s.printed;
        }

    -- the dump ends, with the lines that were printed and what was logged since
    ends_so : {c : ClientHeld B} {p : P} {out : Counting W} {observer : O} {end : Conclusion} (whole : Bool) (rest last : List ℕ) (events : List DumpEvent)
        → ((payload : List (List ℕ)) → k.holds new.client.source payload → k.holds c.source payload)
        → ((fed : List ℕ) → HasFed old.client fed → HasKeptTo k old (kept_ends c p out observer) end s.text (rest ++ last) events fed)
        → LogsOn k.logs old.observer observer events → AreTold old.client.at.counts events c.at.counts → entered_of events ≡ [] → DumpLines new.client.at.counts c.at.counts rest
        → IsPrinted k.contents (rest ++ last) new.out out whole → IsKeptConclusion whole c.at last end → IsDumpKept k old (kept_ends c p out observer) end
    ends_so {c = c} whole rest last events same kept logs all none_entered lines told is = record {
      text = s.text;
      rest = rest;
      last = last;
      middle = new.out;
      whole = whole;
      events = events;
      same = λ payload h. same payload (s.same payload h);
      kept = kept;
      logs = logs;
      counted = all;
      unentered = none_entered;
      printed = s.printed;
      told = told;
      lines = lines_both old.client.at.counts new.client.at.counts s.text s.lines c.at.counts rest lines;
      ends = is;
    }

    -- the volumes that were counted since
    abbrev more_of : ClientHeld B → List VolumeCount
    more_of c = drop (length new.client.at.counts) c.at.counts

    -- the events, once the observer was told of these
    abbrev events_of : ClientHeld B → List DumpEvent
    events_of c = s.events ++ told_of (more_of c)

    all_told : (c : ClientHeld B) → IsPrefixOf new.client.at.counts c.at.counts → AreTold old.client.at.counts (events_of c) c.at.counts
    all_told c grows = with_more new.client.at.counts c.at.counts grows ∙ told_more old.client.at.counts s.events new.client.at.counts (more_of c) s.counted

    module _ (e : kept ≡ Some (length new.client.at.counts)) {c : ClientHeld B} {p : P} (t : TalksOver k.holds (FromThis new.client.at) k.tells new.client c new.peer p) {out : Counting W} {observer : O}
        (logged : LogsOn k.logs new.observer observer (told_of (drop (length new.client.at.counts) c.at.counts))) where
      module _ (grows : IsPrefixOf new.client.at.counts c.at.counts) where
        -- a round of talk, from where the client's checkpoint is kept; then the observer is told what was counted
        talked_on : (fed : List ℕ) → HasFed old.client fed → IsOn k old (kept_ends c p out observer) s.text (events_of c) kept fed
        talked_on fed h =
            let one = s.on fed h in
            let two = t.talked one.has.later one.has.keeps in
            let goes = talk_goes two.talks in
            let talked = then_talk one.has.dumped (talks_weaker s.same (λ at is. subst (IsKept s.events) (sym is) (one.last e)) two.talks) in
            record {
              has = record {
                passed = one.has.passed ++ two.passed;
                later = two.later;
                dumped = then_counts (more_of c) talked (with_more new.client.at.counts c.at.counts grows ∙ ap (λ l. l ++ more_of c) s.counted);
                keeps = two.keeps;
                logs = both k.tells one.has.logs two.logs;
              };
              last = λ up.
                  let own = kept_still s.events new.client.at c.at goes (sym up ∙ e) (one.last e) in
                  (own.0, kept_still_told s.events (more_of c) ∙ own.1);
            }

      pub round_on : IsRound k.contents new.client.at.counts c.at new.out out None → KeptSoFar k old (kept_ends c p out observer) kept
      round_on r =
          let grows = lines_grow new.client.at.counts c.at.counts r.0 r.1 in
          record {
            text = s.text ++ r.0;
            events = events_of c;
            same = λ payload h. t.same payload (s.same payload h);
            on = λ fed h. let one = talked_on grows fed h in record { has = has_now one.has (then_print r.0 one.has.dumped (all_told c grows)); last = one.last };
            logs = both_logged k.logs s.logs logged;
            counted = all_told c grows;
            unentered = none_entered_told s.events (more_of c) s.unentered;
            lines = lines_both old.client.at.counts new.client.at.counts s.text s.lines c.at.counts r.0 r.1;
            printed = printed_both k.contents s.text r.0 old.out new.out out true s.printed r.2;
          }

      -- the last round
      pub round_ends : {end : Conclusion} → IsRound k.contents new.client.at.counts c.at new.out out (Some end) → (end ≡ ends.Complete → c.at ≡ new.client.at)
          → IsDumpKept k old (kept_ends c p out observer) end
      round_ends {end} r still =
          let grows = lines_grow new.client.at.counts c.at.counts r.text r.lines in
          ends_so r.whole r.text r.last (events_of c) t.same
          (λ fed h.
          let one = talked_on grows fed h in
          record { has = has_now one.has (then_last (r.text ++ r.last) one.has.dumped (all_told c grows)); last = λ complete. inr (one.last (rw (still complete) e)) })
          (both_logged k.logs s.logs logged) (all_told c grows) (none_entered_told s.events (more_of c) s.unentered) r.lines r.printed (kept_conclusion r.whole c.at r.last end r.ends)

    -- the dump does nothing more than print its last line
    pub unkept_ends : {out : Counting W} {observer : O} {end : Conclusion} → LogsOn k.logs new.observer observer [] → IsUnkept k.contents new.out out end
        → IsDumpKept k old (kept_ends new.client new.peer out observer) end
    unkept_ends more u = ends_so u.1.0 [] unkept_line s.events (λ payload h. h)
        (λ fed h.
        let one = s.on fed h in
        record { has = has_now one.has (then_last unkept_line one.has.dumped s.counted); last = λ complete. (let clash = sym u.0 ∙ complete in absurd cc) })
        (logged_still more) s.counted s.unentered none u.1.1 (rw u.0 refl)

    pub finish_ends : {out : Counting W} {end : Conclusion} → IsFinish k.contents new.client.at new.out out end → (new.client.at ≡ old.client.at) ⊎ (kept ≡ Some (length new.client.at.counts))
        → IsDumpKept k old (kept_ends new.client new.peer out new.observer) end
    finish_ends {end = end} f up = ends_so f.1 [] f.0 s.events (λ payload h. h)
        (λ fed h.
        let one = s.on fed h in
        record { has = has_now one.has (then_last f.0 one.has.dumped s.counted); last = λ complete. elim up [ inl same ↦ inl same | inr kept ↦ inr (one.last kept) ] })
        s.logs s.counted s.unentered none f.2 (kept_conclusion f.1 new.client.at f.0 end f.3)

  -- the lines are those of a dump without an observer, if the observer cannot stop it
  pub dump_printed : {old new : KeptEnds B P W O} {end : Conclusion} {status : ExitStatus} → status ≡ conclusion_status end → ((end ≡ ends.Unkept) ⊎ (end ≡ ends.Left) → ⊥)
      → IsDumpKept k old new end → IsDumped k.contents old.client.at.counts new.client.at old.out new.out status
  dump_printed {old} {new} {end} e other h =
      let not_unkept : end ≡ ends.Unkept → ⊥ = λ is. other (inl is) in
      let not_left : end ≡ ends.Left → ⊥ = λ is. other (inr is) in
      record {
        text = h.text ++ h.rest;
        last = h.last;
        whole = h.whole;
        lines = h.lines;
        printed = rw append_assoc (printed_both k.contents h.text (h.rest ++ h.last) old.out h.middle new.out h.whole h.printed h.told);
        ends = grind (arith, h.ends);
      }
