-- What the client's next request leaves of a world.
use Rattle.tape_world.proofs.Layers.{common_steps, arith, ◌≡◌, Bool, true, List, map, option_map, Option, Some, None, ap, ◌∙◌, ℕ, same_Some, ListedBlocks, state_of, Step, Stage, ToSend, AttemptFault, World, WorldClient, numbered, changed, Send, StandsIn, Happens, Sends, caller, is_failing, RealBegun, RealCaller, seen_begun, seen_caller, Asks, AskedOf, IsToSend, talked, is_in_attempt, IsOwned, IsSourced, false}
use Rattle.tape_world.proofs.Numbered.{numbered_seen}
use Rattle.dump_client.specs.declared.stage.State.TheVariants as told

told_to_send : (stage : Stage) → state_of stage ≡ told.ToSend → (step : Step) × (stage ≡ ToSend step)
told_to_send stage is = grind (arith, common_steps)

-- the client that is there is to send
pub to_send : (w : World) (o : Option RealCaller) → w.caller ≡ option_map seen_caller o → StandsIn w (λ stage. state_of stage ≡ told.ToSend) → IsToSend o
to_send w o is h3 = grind (arith, common_steps, told_to_send, same_Some)

-- a client that is to send has a connection of its own
pub has_own : (w : World) → IsOwned w → w.own ≡ None → StandsIn w (λ stage. (step : Step) × (stage ≡ ToSend step)) → ⊥
has_own w o none (x, is, (step, stage)) = grind (arith, o.attempt x is (ap is_in_attempt stage))

-- its own connection after that
abbrev pub own_after : Option (ℕ × AttemptFault) → Option ℕ → Option ℕ
own_after None own = own
own_after (Some failure) own = None

-- the world then
abbrev pub talked_world : World → ℕ → List ℕ → Option (ℕ × AttemptFault) → Option WorldClient → World
talked_world w k text failure caller =
    record w { connections = changed (talked text failure) w.connections k; caller = caller; own = own_after failure w.own; failure = failure }

sends_so : (w u : World) (k : ℕ) (b : Bool) (step : Step) (c d : RealCaller) (text : List ℕ) (failure : Option (ℕ × AttemptFault)) (payload : List (List ℕ))
    → d.number ≡ c.number → AskedOf b c step text failure d → c.client.source.blocks ≡ payload → u ≡ talked_world w k text failure (Some (seen_caller d))
    → Sends b w k (seen_caller c) payload step u
sends_so w u k true step c d text failure payload number (tells, at) blocks is = (d.client.reader, is ∙ rw (number, at, tells))
sends_so w u k false step c d text failure payload number asked blocks is = grind (arith, common_steps)

pub talked_event : (w u : World) (k : ℕ) (begun : List RealBegun) (o new : Option RealCaller) (fails : Bool) (text : List ℕ)
    (failure : Option (ℕ × AttemptFault))
    → w.own ≡ Some k → w.begun ≡ map seen_begun begun → w.caller ≡ option_map seen_caller o → IsSourced begun o → Asks o fails text failure new
    → u ≡ talked_world w k text failure (option_map seen_caller new) → Happens w (Send fails) u
talked_event w u k begun o new fails text failure own all was s a is =
    let b = s a.before a.was in
    let old : w.caller ≡ Some (seen_caller a.before) = was ∙ ap (option_map seen_caller) a.was in
    let at : numbered w.begun a.before.number ≡ Some (seen_begun b.0)
    = ap (λ xs. numbered xs a.before.number) all ∙ numbered_seen seen_begun begun a.before.number b.0 b.2 in
    let sends = sends_so w u k (is_failing fails a.step) a.step a.before a.after text failure b.0.payload.blocks a.number a.asked
    (ap (λ (l : ListedBlocks). l.blocks) b.3) (is ∙ ap (λ o. talked_world w k text failure (option_map seen_caller o)) a.is) in
    ((seen_caller a.before, old, (a.step, a.stage)), (seen_caller a.before, a.step, k, seen_begun b.0, old, a.stage, own, at, sends))
