-- Events that were made, and what they print, one after the other.
use Rattle.rsim_schedule.proofs.Words.{◌≡◌, ℕ, List, [], ◌∷◌, ◌++◌, Bool, true, Option, Result, Err, refl, sym, ap, subst, take, length, append-nil, append_assoc, length-append, arith, err_from_is_err_and, Counting, nothing_printed, printed_both, World, IsStopped, Plays, no_play, play_more, IsPlayed, failed_line, is_whole, Halt, StreamFailed}
use Rattle.std.specs.Result.{IsErrAnd}
use Rattle.world_model.specs.Events.{PlainEvent}
use Rattle.world_model.specs.Steps.{Runs, none as no_run, one_more as run_more}

-- events, and then further ones
pub plays_on : {first before after : World} {one two : List ℕ} → Plays first before one → Plays before after two → Plays first after (one ++ two)
plays_on {first = first} {before = before} {one = one} play no_play = subst (Plays first before) (sym (append-nil one)) play
plays_on {first = first} {one = one} play (play_more {after = after} {text = text} event more run) =
    subst (Plays first after) (append_assoc one text (failed_line after.failure)) (play_more event (plays_on play more) run)

-- no event was made
runs_none : (w u : World) (events : List PlainEvent) → events ≡ [] → Runs w events u → u ≡ w
runs_none w u events e no_run = refl
runs_none w u events e (run_more {events = before} event run happens) =
    absurd (omega (arith, length-append before (event ∷ []), ap length e))

-- whether a write failed is told on
pub halt_whole : (A B : Type 0) (halt : Halt) → is_whole {T = A} (Err halt) ≡ is_whole {T = B} (Err halt)
halt_whole A B StreamFailed = refl
halt_whole A B halt = refl

module _ {W : Type 0} (contents : W → Option (List ℕ)) where
  pub nothing_played : (w : World) (out : Counting W) → IsPlayed contents w out true w out
  nothing_played w out = ([], no_play, nothing_printed contents out)

  -- the one event that was to be made was not
  pub not_made : (w u : World) (event : PlainEvent) (i : ℕ) (out : Counting W) → IsStopped w (event ∷ []) i u → IsPlayed contents w out true u out
  not_made w u event i out stopped =
      let first : i ≡ 0 = omega (arith, stopped.inside) in
      rw (runs_none w u (take i (event ∷ [])) (ap (λ n. take n (event ∷ [])) first) stopped.made) (nothing_played w out)

  pub played_both : (w v u : World) (a b c : Counting W) (whole : Bool) → IsPlayed contents w a true v b → IsPlayed contents v b whole u c
      → IsPlayed contents w a whole u c
  played_both w v u a b c whole one two =
      (one.0 ++ two.0, plays_on one.1 two.1, printed_both contents one.0 two.0 a b c whole one.2 two.2)

  -- what was done after others ended with an error, which is passed on
  pub played_stop : {A B : Type 0} (w v u : World) (a b c : Counting W) (inner : Result A Halt) (result : Result B Halt) (halt : Halt)
      → IsPlayed contents w a true v b → IsPlayed contents v b (is_whole inner) u c → inner ≡ Err halt → IsErrAnd result (λ e. e ≡ halt)
      → IsPlayed contents w a (is_whole result) u c
  played_stop {A} {B} w v u a b c inner result halt one two was is =
      let told = err_from_is_err_and result is in
      rw (told.1, told.2, halt_whole B A halt) (played_both w v u a b c (is_whole {T = A} (Err halt)) one (rw was at two))
