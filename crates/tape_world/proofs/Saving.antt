-- What is kept of a run outside of the client, and the client that comes back with it.
use Rattle.tape_world.proofs.Layers.{common_steps, true, ◌≡◌, ◌↔◌, ℕ, zero, suc, ◌-◌, ◌==◌, List, [], ◌∷◌, ◌++◌, map, option_map, Option, Some, None, sym, ap, subst, ◌∙◌, inl, inr, arith, list_any, length-map, Any-from_list_any, PlainRun, IsPayload, Answer, World, numbered, with_no_failure, IsWorldKept, ResumesRun, forgotten_from, kept_after, RealEntered, RealBegun, RealCaller, IsBegunWith, IsBacked, IsSourced, ResumesRunWith, IsEnteredIn, IsKeptOf, kept_then, seen_begun, seen_caller, seen_entered, seen_kept, Contains, get_or, nat_tests, Entered, pushed_is, get_or_from_slice_get}
use Rattle.std.proofs.Math.ListN.{get_or-map}
use Rattle.tape_world.specs.declared.caller.KeptRun.{KeptRun}
use Rattle.tape_world.proofs.Numbered.{numbered_seen}

-- the member at the place before a number
pub at_index : {X : Type 0} (xs : List X) (n : ℕ) (x y : X) → numbered xs n ≡ Some x → y ≡ get_or xs (n - 1) y → x ≡ y
at_index xs zero x y at is = absurd cc
at_index xs (suc m) x y at is =
    let place : m ≡ suc m - 1 = omega arith in
    sym (get_or_from_slice_get xs m x y at) ∙ ap (λ j. get_or xs j y) place ∙ sym is

-- a run more that was begun, and nothing is kept
pub backed_begun : (begun xs : List RealBegun) (b : RealBegun) (run : PlainRun) (payload : List ℕ) (old new : Option KeptRun) → begun ≡ xs ++ b ∷ []
    → IsBegunWith run payload b → new ≡ None → IsBacked xs old → IsBacked begun new
backed_begun begun xs b run payload old new is its none k = record {
  shaped = λ n x at. elim (pushed_is xs b n x (ap (λ l. numbered l n) (sym is) ∙ at)) [
    | inl before ↦ k.shaped n x before
    | inr last ↦ subst (λ (y : RealBegun). IsPayload y.run y.payload.blocks) (sym last.1) its.shaped
  ];
  text = λ x at. (let clash = sym none ∙ at in absurd cc);
}

pub kept_seen : (answer : Answer) (old : Option KeptRun) → option_map seen_kept (kept_then answer old) ≡ kept_after answer (option_map seen_kept old)
kept_seen answer old = grind (arith, common_steps)

-- the client's run is kept
pub backed_saved : (w : World) (begun : List RealBegun) (c : RealCaller) (k : KeptRun) (o : Option RealCaller) (old new : Option KeptRun)
    → w.caller ≡ Some (seen_caller c)
    → w.begun ≡ map seen_begun begun → IsWorldKept w → o ≡ Some c → IsSourced begun o → new ≡ Some k → IsKeptOf c k → IsBacked begun old → IsBacked begun new
backed_saved w begun c k o old new there is kept at sourced now its backed =
    let s = sourced c at in
    let b = s.0 in
    let seen = kept.booked.begun (seen_caller c) there in
    let found : numbered w.begun c.number ≡ Some (seen_begun b) = ap (λ l. numbered l c.number) is ∙ numbered_seen seen_begun begun c.number b s.2 in
    let run : c.client.at.run ≡ b.run = grind arith in
    grind (arith, common_steps, kept.lawful (seen_caller c) there)

any_entered : (items : List RealEntered) (number : ℕ) (e : Entered) → Contains (map seen_entered items) e → e.run ≡ number
    → list_any (λ e. e.run == number) items ≡ true
any_entered [] number e (i, below, at) same = absurd (omega (arith, below))
any_entered (x ∷ items) number e (zero, below, at) same = grind (arith, common_steps)
any_entered (x ∷ items) number e (suc i, below, at) same = grind (arith, common_steps, any_entered items number e (i, omega (arith, below), at) same)

-- a run is found by its number among those that were entered, as they are seen
pub entered_found : (items : List RealEntered) (number : ℕ) → (list_any (λ e. e.run == number) items ≡ true) ↔ IsEnteredIn (map seen_entered items) number
entered_found items number = (
  λ found. (
      let (k, x, within, at, equal) = Any-from_list_any (λ (e : RealEntered). e.run == number) items found in (
        seen_entered x,
        (k, omega (arith, within, length-map items seen_entered), get_or-map seen_entered items k x ∙ ap seen_entered at),
        grind (arith, nat_tests, equal),
      )),
  λ (e, among, same). any_entered items number e among same,
)

-- the payload of what is kept is that of its run
pub back_payload : (k : KeptRun) (begun : List RealBegun) (b : RealBegun) (blocks : List (List ℕ)) (run : PlainRun) (payload : List (List ℕ))
    → numbered begun k.run ≡ Some b
    → IsBacked begun (Some k) → blocks ≡ b.payload.blocks → run ≡ b.run → blocks ≡ payload → IsPayload run payload
back_payload k begun b blocks run payload at backed source same told = grind (arith, common_steps)

-- the event, by what came back
pub back_step : (w u : World) (begun : List RealBegun) (kept : Option KeptRun) (new : Option RealCaller) → w.kept ≡ option_map seen_kept kept
    → w.begun ≡ map seen_begun begun → ResumesRunWith begun kept new
    → u ≡ record (forgotten_from (with_no_failure w) w.own) { caller = option_map seen_caller new }
    → ResumesRun w.kept w u
back_step w u begun None new is_kept is back now = grind (arith, common_steps)
back_step w u begun (Some k) new is_kept is (c, there, b) now =
    let at : numbered w.begun k.run ≡ Some (seen_begun b.run) = ap (λ l. numbered l k.run) is ∙ numbered_seen seen_begun begun k.run b.run b.begun_as in
    subst (λ o. ResumesRun o w u) (sym is_kept) (seen_begun b.run, c.client.at, c.client.reader, at, b.over, grind arith)

-- the client that came back reads the payload of its run
pub back_sourced : (begun : List RealBegun) (kept : Option KeptRun) (new : Option RealCaller) → ResumesRunWith begun kept new → IsSourced begun new
back_sourced begun kept new back c at = grind (arith, common_steps)
