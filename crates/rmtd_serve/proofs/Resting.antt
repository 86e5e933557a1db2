-- A drive that no seat holds before a stream is held by none after it, and where no device can fail before, none can after.
use Rattle.std.proofs.Common.{◌≡◌, ◌⊎◌, ℕ, ◌<◌, ◌==◌, Bool, true, false, List, length, slice_index, Option, Some, None, MatchOption, Result, Ok, Err, refl, sym, ap, subst, ◌∙◌, inl, inr, arith}
use Rattle.std.proofs.lemmas.Grind.{common_steps}
use Rattle.rmt_wire.specs.Request.{PlainRequest}
use Rattle.rmt_wire.specs.Request.PlainRequest.{Open, Close, Write, WriteDropped, Read, Op}
use Rattle.rmt_wire.specs.Reply.{PlainReply}
use Rattle.tape.specs.declared.reel.Reel.{Ghosts as ReelPromise}
use Rattle.drives.specs.declared.stacks.Stacks.{Ghosts as StacksPromise}
use Rattle.drives.specs.declared.fault.DriveFault.{DriveFault}
use Rattle.drives.specs.declared.view.View.{View}
use Rattle.drives.specs.Local.{Holders, holders, IsSeatGiven}
use Rattle.drives.specs.Opening.{Kinds, kinds, holder_after_open}
use Rattle.drives.specs.contracts.local.LocalHoldsHolds.TheImpl.{ghosts as of_holds}
use Rattle.rmt_server.specs.declared.access.Access.{Access}
use Rattle.rmt_server.specs.declared.session.session_state.Opened.{Opened}
use Rattle.rmt_server.specs.Access.{access_of}
use Rattle.rmt_server.specs.Session.{SessionView, session_view, closed, refusal, is_offline, ServeRun}
use Rattle.rmt_server.specs.Session.PlainSession.{Idle}
use Rattle.rmt_server.specs.State.{State, drive_of, SessionCanFail, IsViewedAs, status_at}
use Rattle.rmt_server.specs.Opening.{holder_after_close, IsClosed, OpensFor}
use Rattle.rmt_server.specs.Moving.{MovesIn, MovesReel}
use Rattle.rmt_server.specs.Carrying.{Operates, CarriesOut, IsAlone, MayFail}
use Rattle.rmt_server.specs.Stream.{Streams, StreamsKind, streams, streams_kind, Exchange, CarryRun, IsServedAs}
use Rattle.rmt_server.specs.declared.stream.Served.{Served}
use Rattle.rmt_server.specs.declared.stream.ServeFault.{ServeFault}
use Rattle.rmt_server.specs.Memory.{MemoryState, in_memory}
use Rattle.rmt_wire.specs.Counted.{Counting}
use Rattle.drives.specs.TapeLibrary.{TapeLibrary, EachReelOnce}
use Rattle.drives.specs.ListLibrary.{ListLibrary, library_of}
use Rattle.drives.specs.contracts.list.ListStacksStacks.TheImpl.{ghosts as of_stacks}
use Rattle.tape.specs.contracts.troubled.TroubledReelReel.TheImpl.{ghosts as of_reel}
use Rattle.rmt_server.specs.Stream.CarryRun.{none, one_more}
use Rattle.rmtd_serve.specs.declared.session_fault.SessionFault.{SessionFault}
use Rattle.rmtd_serve.specs.Serving.{AllFree, IsAtRest, IsServedNext, ServedInTurn}
use Rattle.rmtd_serve.specs.Generic.{IsServedAt}
use Rattle.rmtd_serve.specs.Generic.IsServedAt.{no_memory, no_seat, one_served}
use Rattle.rmtd_serve.specs.Seating.{ServesStreams}
use Rattle.rmtd_serve.specs.Seating.ServesStreams.{untouched, served as by_session}
use Rattle.rmtd_serve.specs.Serving.ServedInTurn.{none as none_served, one_more as one_more_served}
use Rattle.rmtd_serve.proofs.Endings.{ends_with, none_fails, none_ends, unserved}

-- a word that is 0 or this number is so after a close
after_close : (drive : Option ℕ) (number d n : ℕ) → (n ≡ 0) ⊎ (n ≡ number) → (holder_after_close drive d n ≡ 0) ⊎ (holder_after_close drive d n ≡ number)
after_close None number d n h = h
after_close (Some e) number d n (inl h) = inl (grind (arith, common_steps))
after_close (Some e) number d n (inr h) = grind (arith, common_steps)

-- and after an open by the seat of this number
after_open : {R : Type 0} (result : Result (ℕ × R) DriveFault) (number d n : ℕ) → (n ≡ 0) ⊎ (n ≡ number)
    → (holder_after_open result number d n ≡ 0) ⊎ (holder_after_open result number d n ≡ number)
after_open (Ok opened) number d n (inl h) = grind (arith, common_steps)
after_open (Ok opened) number d n (inr h) = grind (arith, common_steps)
after_open (Err fault) number d n h = h

-- each drive is held by no seat, or by the one of this number
abbrev FreeOr : ℕ → Holders → Type 0
FreeOr number holds = (d : ℕ) → d < length holds.numbers → (slice_index holds.numbers d ≡ 0) ⊎ (slice_index holds.numbers d ≡ number)

-- what is held by no seat or this one is held by none, once this one holds none
none_held : (number : ℕ) (holds : Holders) → FreeOr number holds
    → ((d : ℕ) → d < length holds.numbers → false ≡ (slice_index holds.numbers d == number)) → AllFree holds
none_held number holds free not d l = elim (free d l) [
  | inl e ↦ e
  | inr e ↦ let n = not d l in absurd (grind (arith, common_steps))
]

module _ {S R : Type 0} (s : StacksPromise S R) (r : ReelPromise R) (number : ℕ) where
  At : State Holders S View R → Type 0
  At x = FreeOr number x.drives.holds × (x.seat.number ≡ number)

  same_at : (old new : State Holders S View R) → new.drives.holds ≡ old.drives.holds → new.seat ≡ old.seat → At old → At new
  unfolding At
  same_at old new h v a = rw (h, v) a

  closed_at : (old new : State Holders S View R) → At old → IsClosed (kinds of_holds s r) old new → At new
  unfolding At
  closed_at old new (free, mine) c = (
    λ d l. (
        let before = subst (λ n. d < n) c.kept.same_holds l in
        let argument = c.told d (slice_index old.drives.holds.numbers d) (before, refl) in
        elim (after_close (drive_of old.opened) number d (slice_index old.drives.holds.numbers d) (free d before)) [
          | inl e ↦ inl (argument.1 ∙ e)
          | inr e ↦ inr (argument.1 ∙ e)
        ]),
    c.kept.number ∙ mine,
  )

  opened_at : (old : State Holders S View R) (access : Option Access) (device : List ℕ) (reply : PlainReply) (new : State Holders S View R)
      → At old → OpensFor (kinds of_holds s r) old device access reply new → At new
  unfolding At
  opened_at old None device reply new a (e, n) = rw n a
  opened_at old (Some access) device reply new (free, mine) (result, e, o) = (
    λ d l. (
        let before = subst (λ n. d < n) o.kept.same_holds l in
        let argument = o.opening.told d (slice_index old.drives.holds.numbers d) (before, refl) in
        elim (after_open result number d (slice_index old.drives.holds.numbers d) (free d before)) [
          | inl f ↦ inl (argument.1 ∙ ap (λ n. holder_after_open result n d (slice_index old.drives.holds.numbers d)) mine ∙ f)
          | inr f ↦ inr (argument.1 ∙ ap (λ n. holder_after_open result n d (slice_index old.drives.holds.numbers d)) mine ∙ f)
        ]),
    o.kept.number ∙ mine,
  )

  closes_at : (Refused Closed : Type 0) (old new : State Holders S View R) (opened : Option (Opened R)) → At old
      → MatchOption opened (Refused × (new ≡ old)) (λ device. Closed × IsClosed (kinds of_holds s r) old new) → At new
  closes_at Refused Closed old new None a (e, n) = rw n a
  closes_at Refused Closed old new (Some device) a (e, c) = closed_at old new a c

  moves_in : (old new : State Holders S View R) (device : Opened R) (lying : Option R) (count : ℕ) (reply : PlainReply) → At old
      → MovesIn (kinds of_holds s r) old device lying count reply new → At new
  moves_in old new device None count reply a m = absurd m
  moves_in old new device (Some reel) count reply a (result, e, m) = same_at old new m.same_holds m.same_seat a

  moves_at : {Refusal : Type 0} (Refused : Refusal → Type 0) (old new : State Holders S View R) (opened : Option (Opened R)) (by : Option Refusal)
      (count : ℕ) (reply : PlainReply) → At old
      → MatchOption by (MovesReel (kinds of_holds s r) old opened count reply new) (λ x. Refused x × (new ≡ old)) → At new
  moves_at Refused old new None None count reply a m = absurd m
  moves_at Refused old new (Some device) None count reply a m = moves_in old new device device.reel count reply a m
  moves_at Refused old new opened (Some x) count reply a (e, n) = rw n a

  operates_at : (offline : Bool) (old new : State Holders S View R) (op count : ℕ) (reply : PlainReply) → At old
      → Operates (kinds of_holds s r) offline old op count reply new → At new
  operates_at true old new op count reply a m = moves_at _ old new old.opened (refusal (status_at old.opened) (Op op count)) count reply a m
  operates_at false old new op count reply a (n, v, serves) = same_at old new (ap (λ d. d.holds) n) v a

  carried_at : (old new : State Holders S View R) (request : PlainRequest) (reply : PlainReply) → At old
      → CarriesOut (kinds of_holds s r) old request reply new → At new
  carried_at old new (Open device mode) reply a (between, c, o) = opened_at between (access_of mode) device reply new (closed_at old between a c) o
  carried_at old new Close reply a c = closes_at _ _ old new old.opened a c
  carried_at old new (Write bytes) reply a (n, v, serves) = same_at old new (ap (λ d. d.holds) n) v a
  carried_at old new (WriteDropped count) reply a (n, v, serves) = same_at old new (ap (λ d. d.holds) n) v a
  carried_at old new (Read count) reply a (n, v, serves) = same_at old new (ap (λ d. d.holds) n) v a
  carried_at old new (Op op count) reply a c = operates_at (is_offline op) old new op count reply a c

  run_at : (start : State Holders S View R) → At start → {done : List Exchange} {last : State Holders S View R}
      → CarryRun (kinds of_holds s r) start done last → At last
  run_at start a none = a
  run_at start a (one_more {between = between} {after = after} request reply run carried spelled) =
      carried_at between after request reply (run_at start a run) carried.effect

  -- what is open is closed at the end of a run, and no seat holds a drive
  pub ends_free : {done : List Exchange} (start last new : State Holders S View R) → AllFree start.drives.holds → start.seat.number ≡ number
      → CarryRun (kinds of_holds s r) start done last → IsClosed (kinds of_holds s r) last new → AllFree new.drives.holds
  unfolding At
  ends_free start last new free mine run c =
      let a = closed_at last new (run_at start (λ d l. inl (free d l), mine) run) c in
      none_held number new.drives.holds a.0 (λ d l. grind (arith, common_steps))

runs_quiet : {H S Seat R : Type 0} {k : Kinds H Seat S R} {start : State H S Seat R} {done : List Exchange} {last : State H S Seat R}
    → CarryRun k start done last → SessionCanFail k last → SessionCanFail k start
runs_quiet none f = f
runs_quiet (one_more request reply run carried spelled) f = runs_quiet run (carried.quiet f)

-- a device can fail at the end of a run only where one can at its start
pub ends_quiet : {H S Seat R : Type 0} {k : Kinds H Seat S R} {start last new : State H S Seat R} {done : List Exchange}
    → CarryRun k start done last → IsClosed k last new → SessionCanFail k new → SessionCanFail k start
ends_quiet {k = k} {start = start} run c f = runs_quiet run (c.quiet f)

-- drives that no seat holds are held by none whatever number was given last
numbered_free : (holds new : Holders) → AllFree holds → {last : ℕ} → new ≡ holders holds.numbers last → AllFree new
numbered_free holds new free e = rw e free

-- and once one more seat was given
pub seated_free : (holds new : Holders) → AllFree holds → {given : Option View} {seat : View} → given ≡ Some seat → IsSeatGiven holds given new → AllFree new
seated_free holds new free e given = let next = subst (λ g. IsSeatGiven holds g new) e given in numbered_free holds new free next.1

-- and after a session of its own
pub served_free : {S R In Out : Type 0} (s : StacksPromise S R) (r : ReelPromise R) {kind : StreamsKind In Out} {old new : Streams In Out}
    {ending : Result Served SessionFault} (start : State Holders S View R) {finish : State Holders S View R} → AllFree start.drives.holds
    → ServesStreams (kinds of_holds s r) kind start old new ending finish → AllFree finish.drives.holds
served_free s r start free (untouched i o) = free
served_free s r start free (by_session finish result is steady) = ends_free s r _ start is.last finish free refl is.run is.ended

-- where each drive is free, the holds tell so
pub free_alone : {S R : Type 0} (s : StacksPromise S R) (r : ReelPromise R) (x : State Holders S View R) → AllFree x.drives.holds
    → IsAlone (kinds of_holds s r) x
free_alone s r x free d l = (0, (l, free d l), λ y. absurd (omega arith))

-- a session at stacks at rest leaves them at rest, and its requests are a run of serve steps from the reels as they lay
served_from_rest : {In Out : Type 0} {remaining : In → Option (List ℕ)} {contents : Out → Option (List ℕ)} {result : Result Served ServeFault}
    {input input' : Counting In} {output output' : Counting Out} (start new : MemoryState) → IsAtRest start.drives.stacks → start.opened ≡ None
    → IsAlone in_memory start
    → (served : IsServedAs in_memory (streams_kind remaining contents) result (streams input output) (streams input' output') start new)
    → IsAtRest new.drives.stacks
    × ((finish : SessionView) × ServeRun false false true (session_view (library_of start.drives.stacks) Idle) served.done finish
    × (library_of new.drives.stacks ≡ (closed finish).library))
served_from_rest start new rest closed alone served =
    let idle : IsViewedAs of_reel start.opened Idle = subst (λ o. IsViewedAs of_reel o Idle) (sym closed) refl in
    let quiet : MayFail in_memory start false = none_fails in_memory start rest.quiet closed in
    let steps = served.steps false false quiet (inr alone)
    (session_view (library_of start.drives.stacks) Idle) record { library = rest.told; session = idle } in (
      record {
        told = (refl, subst EachReelOnce steps.2.0 steps.2.1);
        quiet = λ f. let bad : false ≡ true = quiet (ends_quiet served.run served.ended (inl f)) in absurd cc;
      },
      (steps.0, steps.1, sym steps.2.0),
    )

-- a stream that is served at stacks at rest leaves them at rest, and what it served is a run from the reels as they lay
pub served_at_rest : {In Out : Type 0} (remaining : In → Option (List ℕ)) (contents : Out → Option (List ℕ)) {ending : Result Served SessionFault}
    {input input' : Counting In} {output output' : Counting Out} {before after : ListLibrary} → IsAtRest before
    → IsServedAt in_memory (streams_kind remaining contents) before after (streams input output) (streams input' output') ending
    → IsAtRest after
    × IsServedNext (streams_kind remaining contents) (library_of before) (library_of after) (streams input output) (streams input' output') ending
served_at_rest remaining contents rest (no_memory same i o) =
    (subst IsAtRest (sym same) rest, unserved remaining contents (ap library_of same) i (none_ends remaining contents i o))
served_at_rest remaining contents rest (no_seat same i o) =
    (subst IsAtRest (sym same) rest, unserved remaining contents (ap library_of same) i (none_ends remaining contents i o))
served_at_rest remaining contents {input = input} {input'} {output} {output'} rest (one_served start finish result b n alone a f is steady) =
    let from = served_from_rest start finish (subst IsAtRest (sym b) rest) n alone is in
    let run = from.1 in (
      subst IsAtRest a from.0,
      record {
        read = is.read;
        done = is.done;
        rest = is.rest;
        finish = run.0;
        consumed = is.consumed;
        ends = ends_with remaining contents result input input' output output' is.read is.done is.rest is.ends steady;
        run = subst (λ s. ServeRun false false true (session_view (library_of s) Idle) is.done run.0) b run.1;
        left = ap library_of (sym a) ∙ run.2;
      },
    )

-- streams served after others that were
pub in_turn : {first between last : TapeLibrary} → ServedInTurn first between → ServedInTurn between last → ServedInTurn first last
in_turn some none_served = some
in_turn some (one_more_served done finish more run) = one_more_served done finish (in_turn some more) run
