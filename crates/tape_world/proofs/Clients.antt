-- What calls of the client leave of a world.
use Rattle.tape_world.proofs.Layers.{common_steps, arith, ◌≡◌, ◌↔◌, Bool, true, List, option_map, Option, Some, plain_entry, PlainRun, standing, state_of, stage_after, TellsEntry, Stage, Asking, Finished, Answer, World, WorldClient, StandsIn, caller, entry_of, RealBegun, RealCaller, seen_caller, IsSameRun, ClientAnswers, IsSourced, None, ReplyHeld}
use Rattle.dumpdates.specs.declared.entry.Entry.{Entry}
use Rattle.dump_client.specs.declared.stage.State.{State}
use Rattle.dump_client.specs.declared.stage.State.TheVariants as told

-- the client that is there stands so
pub stands : (w : World) (o : Option RealCaller) (c : RealCaller) (tells state : State) (r : Bool) → w.caller ≡ option_map seen_caller o → o ≡ Some c
    → tells ≡ state_of c.client.at.stage → (r ≡ true) ↔ (tells ≡ state) → (r ≡ true) ↔ StandsIn w (λ stage. state_of stage ≡ state)
stands w o c tells state r is there stage same = grind (arith, common_steps)

-- the client that took the operator's answer
pub answered : (o new : Option RealCaller) (answer : Answer) (x : WorldClient) → option_map seen_caller o ≡ Some x → state_of x.at.stage ≡ told.Asking
    → ClientAnswers o answer new
    → (reader : ReplyHeld) × (x.at.stage ≡ Asking)
    × (option_map seen_caller new ≡ Some (caller x.number (standing x.at.run x.at.counts (stage_after answer)) reader))
answered None new answer x is asks a = absurd cc
answered (Some c) new answer x is asks (d, result, there, same, at) = (d.client.reader, grind (arith, common_steps), grind (arith, common_steps))

-- the payload is that of the same run
pub sourced_same : (begun : List RealBegun) (o new : Option RealCaller) (c d : RealCaller) → o ≡ Some c → new ≡ Some d → IsSameRun c d → IsSourced begun o
    → IsSourced begun new
sourced_same begun o new c d was is same s x at = grind (arith, common_steps)

pub tells_finished : (stage : Stage) (run : PlainRun) (o : Option Entry) (e : Entry) → o ≡ Some e → TellsEntry stage run o
    → (stage ≡ Finished) × (plain_entry e ≡ entry_of run)
tells_finished stage run o e is tells = grind (arith, common_steps)
