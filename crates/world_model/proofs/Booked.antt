-- Runs, their counts and dumpdates, whatever happens.
use Rattle.world_model.proofs.Basics.{◌≡◌, ◌≢◌, ◌==◌, ℕ, zero, suc, ◌+◌, ◌<◌, List, [], ◌∷◌, ◌++◌, length, map, take, drop, Contains, Some, refl, sym, ap, subst, ◌∙◌, inl, inr, arith, eq-eqb, ne_eqb, append-nil, length-append, Contains-push_cases, Contains-append_cases, Contains-append_left, Contains-append_right, same_Some, slice_get_within, get_or_from_slice_get, slice_get-get_or}
use Rattle.world_model.proofs.Terms.{ReplyHeld, DatesEntry, entered, PlainRun, IsRun, cut_blocks, begun, AreVolumes, GoesOnWith, IsLawful, StageFits, Covers, Standing, standing, FedAt, CutAt, IsOver, stage_after, VolumeCount, Progress, Stage, Ready, ToSend, Waiting, Asking, Finished, Open, World, Begun, WorldClient, Count, Entered, Kept, numbered, with_no_failure, counts_of, IsRunEntered, MayBeKept, caller, recorded, counted_if, counts_in, dates_with, dates_after, IsEarned, AreOnce, AreCountedIn, IsKeptRun, AreBooked, IsClientLawful}
use Rattle.world_model.proofs.Numbers.{pushed_is, numbered_more, numbered_last, numbered_within}
use Rattle.world_model.proofs.Moves.{Listens, told_counts, Move, begins, connects, asks, fails, hears, hears_last, sees, gone, comes, forgets, gives_up, answers, enters, saves, moved}

in_more : (xs ys : List Count) (run : ℕ) → counts_in (xs ++ ys) run ≡ counts_in xs run ++ counts_in ys run
in_more [] ys run = refl
in_more (x ∷ xs) ys run = ap (counted_if (x.run == run) x) (in_more xs ys run) ∙ (grind arith)

-- counts of the client are told as its own, and as no other run's
own_counts : (w : World) (number k : ℕ) (counts : List VolumeCount) → counts_in (map (counts_of w number k) counts) number ≡ counts
own_counts w number k [] = refl
own_counts w number k (c ∷ counts) = grind (arith, own_counts w number k counts, eq-eqb number number refl)

other_counts : (w : World) (number k run : ℕ) (counts : List VolumeCount) → number ≢ run → counts_in (map (counts_of w number k) counts) run ≡ []
other_counts w number k run [] other = refl
other_counts w number k run (c ∷ counts) other = grind (arith, other_counts w number k run counts other, ne_eqb number run other)

-- Runs, entries and dumpdates are as they were, these counts of the runs that were begun are told, and what is kept was kept.
record Stays (w u : World) (told : List Count) : Type 0 where
  begun : u.begun ≡ w.begun
  counts : u.counts ≡ w.counts ++ told
  past : (run : ℕ) → length w.begun < run → counts_in told run ≡ []
  entered : u.entered ≡ w.entered
  kept : (z : Kept) → u.kept ≡ Some z → w.kept ≡ Some z
  dates : u.dates ≡ w.dates

-- nothing is counted
still : (w u : World) → u.begun ≡ w.begun → u.counts ≡ w.counts → u.entered ≡ w.entered → ((z : Kept) → u.kept ≡ Some z → w.kept ≡ Some z) → u.dates ≡ w.dates
    → Stays w u []
still w u begun counts entered kept dates =
    record { begun = begun; counts = counts ∙ sym (append-nil w.counts); past = λ run past. refl; entered = entered; kept = kept; dates = dates }

-- what was counted stays counted
stays_listed : (w u : World) (told : List Count) → Stays w u told → (run : ℕ) (listed : List VolumeCount) → AreCountedIn w run listed → AreCountedIn u run listed
stays_listed w u told s run listed l v among =
    subst (λ cs. Contains cs v) (sym (ap (λ cs. counts_in cs run) s.counts ∙ in_more w.counts told run))
    (Contains-append_left (counts_in w.counts run) (counts_in told run) v (l v among))

-- what is said of the client
record IsClientBooked (u : World) (c : WorldClient) : Type 0 where
  last : c.number ≡ length u.begun
  begun : (b : Begun) × (numbered u.begun c.number ≡ Some b) × (b.run ≡ c.at.run)
  listed : AreCountedIn u c.number c.at.counts
  finished : (e : Entered) → Contains u.entered e → e.run ≡ c.number → c.at.stage ≡ Finished

-- all the rest stays
stays_booked : (w u : World) (told : List Count) → Stays w u told → ((c : WorldClient) → u.caller ≡ Some c → IsClientBooked u c) → AreBooked w → AreBooked u
stays_booked w u told s client k = record {
  last = λ c is. (client c is).last;
  begun = λ c is. (client c is).begun;
  listed = λ c is. (client c is).listed;
  kept = λ z is. (let q = k.kept z (s.kept z is) in record {
    begun = q.begun;
    begun_as = ap (λ l. numbered l z.run) s.begun ∙ q.begun_as;
    limits = q.limits;
    last = q.last ∙ sym (ap length s.begun);
    in_order = q.in_order;
    counted = stays_listed w u told s z.run z.listed q.counted;
    unentered = λ e among. q.unentered e (subst (λ l. Contains l e) s.entered among);
  });
  none = grind (arith, in_more);
  earned = λ e among. (let (b, at, covers, volumes, counted) = k.earned e (subst (λ l. Contains l e) s.entered among) in
      (b, ap (λ l. numbered l e.run) s.begun ∙ at, covers, volumes, stays_listed w u told s e.run e.listed counted));
  once = subst AreOnce (sym s.entered) k.once;
  finished = λ c e is. (client c is).finished e;
  dates = s.dates ∙ k.dates ∙ sym (ap (λ l. dates_after l [] u.entered) s.begun ∙ ap (dates_after w.begun []) s.entered);
}

-- the client is this one
is_booked : (u : World) (x : WorldClient) → u.caller ≡ Some x → IsClientBooked u x → (c : WorldClient) → u.caller ≡ Some c → IsClientBooked u c
is_booked u x is b c at = subst (IsClientBooked u) (same_Some x c (sym is ∙ at)) b

-- how bytes and the end of a connection move a client
abbrev pub Goings : Type 0
Goings =
    ((old new : Standing) (bytes piece : List ℕ) (progress : Progress) → FedAt old.stage old bytes piece progress new
    → (more : List VolumeCount) × GoesOnWith old new more)
    × ((old new : Standing) (progress : Progress) → CutAt old.stage old progress new → GoesOnWith old new [])

-- a client of the same run and counts at another stage
at_stage : (x : Standing) (next : Stage) → x.stage ≢ Finished → GoesOnWith x (standing x.run x.counts next) []
at_stage x next unlike = record { run = refl; counts = sym (append-nil x.counts); finished = λ e. absurd (unlike e) }

-- what is after the first so many
pub drop_front : {X : Type 0} (xs ys : List X) → drop (length xs) (xs ++ ys) ≡ ys
drop_front [] ys = refl
drop_front (x ∷ xs) ys = drop_front xs ys

-- dumpdates are told by the runs that were entered
more_dates : (begun more : List Begun) (dates : List DatesEntry) (es : List Entered) → ((e : Entered) → Contains es e → (b : Begun) × (numbered begun e.run ≡ Some b))
    → dates_after (begun ++ more) dates es ≡ dates_after begun dates es
more_dates begun more dates [] there = refl
more_dates begun more dates (e ∷ es) there =
    let b = there e (0, omega arith, refl) in
    ap (λ o. dates_after (begun ++ more) (dates_with dates o) es) (numbered_more begun more e.run b.0 b.1)
    ∙ more_dates begun more (dates_with dates (Some b.0)) es (λ f among. there f (Contains-append_right (e ∷ []) es f among))
    ∙ ap (λ o. dates_after begun (dates_with dates o) es) (sym b.1)

-- a member of that number is one of the list
pub among_at : {X : Type 0} (xs : List X) (i : ℕ) (x : X) → numbered xs i ≡ Some x → Contains xs x
among_at xs zero x at = absurd cc
among_at xs (suc m) x at = (m, slice_get_within xs m x at, get_or_from_slice_get xs m x x at)

-- and one of the list has a number
pub place_of : {X : Type 0} (xs : List X) (x : X) → Contains xs x → (i : ℕ) × (numbered xs i ≡ Some x)
place_of xs x (i, within, is) = (suc i, slice_get-get_or xs i x within ∙ ap Some is)

-- a run is begun
started_booked : (w : World) (run : PlainRun) (payload : List ℕ) (reader : ReplyHeld) → AreBooked w → AreBooked (begun w run payload reader)
started_booked w run payload reader k =
    let u = begun w run payload reader in
    let b : Begun = record { run = run; payload = cut_blocks run.blocks run.block_bytes payload } in
    let new : WorldClient = caller (length w.begun + 1) (standing run [] Ready) reader in
    let many : length u.begun ≡ length w.begun + 1 = length-append w.begun (b ∷ []) in
    record {
      last = λ c at. ap (λ (z : WorldClient). z.number) (sym (same_Some new c at)) ∙ sym many;
      begun = λ c at. (
          let place : c.number ≡ suc (length w.begun) = sym (ap (λ (z : WorldClient). z.number) (same_Some new c at)) ∙ omega arith in
          (b, ap (numbered u.begun) place ∙ numbered_last w.begun b, ap (λ (z : WorldClient). z.at.run) (same_Some new c at)));
      listed = grind arith;
      kept = λ z at. absurd cc;
      none = λ run past. k.none run (omega (arith, past, many));
      earned = λ e among. (let (b, at, covers, volumes, counted) = k.earned e among in (b, numbered_more w.begun _ e.run b at, covers, volumes, counted));
      once = k.once;
      finished = λ c e at among same. (let x = k.earned e among in let few = numbered_within w.begun e.run x.0 x.1 in grind arith);
      dates = k.dates ∙ sym (more_dates w.begun (b ∷ []) [] w.entered (λ e among. (let x = k.earned e among in (x.0, x.1))));
    }

-- a run more that was entered
dates_more : (begun : List Begun) (dates : List DatesEntry) (es : List Entered) (e : Entered)
    → dates_after begun dates (es ++ e ∷ []) ≡ dates_with (dates_after begun dates es) (numbered begun e.run)
dates_more begun dates [] e = refl
dates_more begun dates (x ∷ es) e = dates_more begun (dates_with dates (numbered begun x.run)) es e

once_more : (es : List Entered) (e : Entered) → ((f : Entered) → Contains es f → f.run ≢ e.run) → AreOnce es → AreOnce (es ++ e ∷ [])
once_more es e new once i j x y one other same =
    grind (arith, pushed_is es e i x one, pushed_is es e j y other, among_at es i x, among_at es j y, new x, new y, once i j x y)

entered_booked : (w : World) (c : WorldClient) → w.caller ≡ Some c → c.at.stage ≡ Finished → (IsRunEntered w c.number → ⊥) → IsLawful c.at → AreBooked w
    → AreBooked (recorded w c)
entered_booked w c there stage not_yet lawful k =
    let b = k.begun c there in
    let now : Entered = record { run = c.number; listed = c.at.counts } in
    let covers : Covers b.0.run c.at.counts = subst (λ r. Covers r c.at.counts) (sym b.2) (subst (StageFits c.at.run c.at.counts) stage lawful.stage) in
    let volumes : AreVolumes b.0.run 1 0 c.at.counts = subst (λ r. AreVolumes r 1 0 c.at.counts) (sym b.2) lawful.counts in
    record {
      last = k.last;
      begun = k.begun;
      listed = k.listed;
      kept = λ z is. absurd cc;
      none = k.none;
      earned = λ e among. elim (Contains-push_cases w.entered now e among) [
        | inl before ↦ k.earned e before
        | inr is ↦ subst (IsEarned (recorded w c)) is (b.0, b.1, covers, volumes, k.listed c there)
      ];
      once = once_more w.entered now (λ f among same. not_yet (f, among, same)) k.once;
      finished = λ d e is among same. ap (λ (z : WorldClient). z.at.stage) (sym (same_Some c d (sym there ∙ is))) ∙ stage;
      dates = grind (arith, dates_more);
    }

-- the client's run is kept, with its counts
saved_booked : (w : World) (c : WorldClient) → w.caller ≡ Some c → MayBeKept w c → IsLawful c.at → AreBooked w
    → AreBooked (record (with_no_failure w) { kept = Some (record { run = c.number; listed = c.at.counts }) })
saved_booked w c there may lawful k =
    let b = k.begun c there in
    let u : World = record (with_no_failure w) { kept = Some (record { run = c.number; listed = c.at.counts }) } in
    let its : IsKeptRun u (record { run = c.number; listed = c.at.counts }) = record {
      begun = b.0;
      begun_as = b.1;
      limits = subst IsRun (sym b.2) lawful.run;
      last = k.last c there;
      in_order = subst (λ r. AreVolumes r 1 0 c.at.counts) (sym b.2) lawful.counts;
      counted = k.listed c there;
      unentered = λ e among same. may.1 (k.finished c e there among same) (e, among, same);
    } in
    grind arith

-- a client comes back with what is kept
back_booked : (w u : World) (z : Kept) (b : Begun) (at : Standing) (reader : ReplyHeld) → Stays w u [] → w.kept ≡ Some z → numbered w.begun z.run ≡ Some b
    → IsOver b.run z.listed at → u.caller ≡ Some (caller z.run at reader) → AreBooked w → AreBooked u
back_booked w u z b at reader s is_kept begun over is k =
    let q = k.kept z is_kept in
    stays_booked w u [] s (is_booked u _ is record {
      last = q.last ∙ sym (ap length s.begun);
      begun = (b, ap (λ l. numbered l z.run) s.begun ∙ begun, grind arith);
      listed = grind (arith, stays_listed w u [] s z.run z.listed q.counted);
      finished = λ e among same. absurd (q.unentered e (subst (λ l. Contains l e) s.entered among) same);
    }) k

-- The client goes on, and its counts are told as those of its run.
goes_booked : (w u : World) (x y : WorldClient) (more : List VolumeCount) (told : List Count) → Stays w u told → w.caller ≡ Some x → u.caller ≡ Some y
    → y.number ≡ x.number
    → GoesOnWith x.at y.at more → counts_in told x.number ≡ more → AreBooked w → AreBooked u
goes_booked w u x y more told s was is number goes own k =
    stays_booked w u told s (is_booked u y is record {
      last = number ∙ k.last x was ∙ sym (ap length s.begun);
      begun = grind arith;
      listed = λ v among. (
          let on = ap (λ l. counts_in l x.number) s.counts ∙ in_more w.counts told x.number in
          subst (λ n. Contains (counts_in u.counts n) v) (sym number)
          (subst (λ cs. Contains cs v) (sym on) (elim (Contains-append_cases x.at.counts more v (subst (λ cs. Contains cs v) goes.counts among)) [
            | inl before ↦ Contains-append_left (counts_in w.counts x.number) (counts_in told x.number) v (k.listed x was v before)
            | inr after ↦ Contains-append_right (counts_in w.counts x.number) (counts_in told x.number) v (subst (λ cs. Contains cs v) (sym own) after)
          ])));
      finished = λ e among same. (goes.finished (k.finished x e was (subst (λ l. Contains l e) s.entered among) (same ∙ number))).0;
    }) k

-- the client heard
heard_booked : Goings → (w u : World) (t : Listens w) → u.begun ≡ w.begun → u.counts ≡ w.counts ++ told_counts w t → u.entered ≡ w.entered → u.kept ≡ w.kept → u.dates ≡ w.dates
    → u.caller ≡ Some (caller t.c.number t.at t.reader) → AreBooked w → AreBooked u
heard_booked g w u t begun counts entered kept dates is b =
    let m = g.0 t.c.at t.at t.fed (take t.n t.l.back) t.progress t.feeds in
    let new = drop (length t.c.at.counts) t.at.counts in
    let more : new ≡ m.0 = ap (drop (length t.c.at.counts)) m.1.counts ∙ drop_front t.c.at.counts m.0 in
    goes_booked w u t.c (caller t.c.number t.at t.reader) m.0 (told_counts w t) record {
      begun = begun;
      counts = counts;
      past = λ run past. other_counts w t.c.number t.k run new (λ same. (let last = b.last t.c t.client in omega (arith, past, same, last)));
      entered = entered;
      kept = λ z at. sym kept ∙ at;
      dates = dates;
    } t.client is refl m.1 (own_counts w t.c.number t.k new ∙ more) b

pub booked_moved : Goings → (w : World) (m : Move w) → IsClientLawful w → AreBooked w → AreBooked (moved w m)
booked_moved g w (begins run payload reader none good long) lawful b = started_booked w run payload reader b
booked_moved g w (connects c there ready) lawful b =
    goes_booked w _ c _ [] [] (still w _ refl refl refl (λ z is. is) refl) there refl refl
    (at_stage c.at (ToSend Open) (λ e. (let clash = sym ready ∙ e in absurd cc))) refl b
booked_moved g w (asks t) lawful b =
    goes_booked w _ t.c _ [] [] (still w _ refl refl refl (λ z is. is) refl) t.there refl refl
    (at_stage t.c.at (Waiting t.step) (λ e. (let clash = sym t.stage ∙ e in absurd cc))) refl b
booked_moved g w (fails k n c reader there stage own) lawful b =
    goes_booked w _ c _ [] [] (still w _ refl refl refl (λ z is. is) refl) there refl refl (at_stage c.at Asking (λ e. (let clash = sym stage ∙ e in absurd cc))) refl b
booked_moved g w (hears t on) lawful b = heard_booked g w _ t refl refl refl refl refl refl b
booked_moved g w (hears_last t failure over) lawful b = heard_booked g w _ t refl refl refl refl refl refl b
booked_moved g w (sees t failure) lawful b =
    goes_booked w _ t.c _ [] [] (still w _ refl refl refl (λ z is. is) refl) t.client refl refl (g.1 t.c.at t.at t.progress t.cuts) refl b
booked_moved g w (answers c answer reader there stage) lawful b =
    goes_booked w _ c _ [] [] (still w _ refl refl refl (grind arith) refl) there refl refl
    (at_stage c.at (stage_after answer) (λ e. (let clash = sym stage ∙ e in absurd cc))) refl b
booked_moved g w (forgets (gone none) idle) lawful b = stays_booked w _ [] (still w _ refl refl refl (λ z is. is) refl) (λ c is. absurd cc) b
booked_moved g w (forgets (comes z x at reader kept begun over) idle) lawful b =
    back_booked w _ z x at reader (still w _ refl refl refl (λ z is. is) refl) kept begun over refl b
booked_moved g w (gives_up (gone none) k own) lawful b = stays_booked w _ [] (still w _ refl refl refl (λ z is. is) refl) (λ c is. absurd cc) b
booked_moved g w (gives_up (comes z x at reader kept begun over) k own) lawful b =
    back_booked w _ z x at reader (still w _ refl refl refl (λ z is. is) refl) kept begun over refl b
booked_moved g w (saves c there may) lawful b = saved_booked w c there may (lawful c there) b
booked_moved g w (enters c there stage not_yet) lawful b = entered_booked w c there stage not_yet (lawful c there) b
booked_moved g w m lawful b = stays_booked w _ [] (still w _ refl refl refl (λ z is. is) refl)
    (λ c is. record { last = b.last c is; begun = b.begun c is; listed = b.listed c is; finished = λ e. b.finished c e is }) b
