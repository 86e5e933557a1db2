use Rattle.tape_world.proofs.Layers.{plain_entry, seen_caller, rules, ◌≡◌, option_map, sym, ap, ◌∙◌, entered}
use Rattle.std.proofs.lemmas.Bool.{false≢true}
use Rattle.tape_world.proofs.Clients.{tells_finished}
use Rattle.tape_world.proofs.world_state.WorldState.enter.Goals as goal

pub returns : goal.returns
returns c =
    let x = seen_caller c.in-Some.caller in
    let at = ap (option_map seen_caller) c.in-Some.is in
    let tells = tells_finished c.in-Some.caller.client.at.stage c.in-Some.caller.client.at.run c.finished.result c.in-Some-finished.entry
    c.in-Some-finished.is c.finished.ensures in
    let dates : c.enter.new.self ≡ entered c.self.inside.dates (plain_entry c.in-Some-finished.entry) = search rules in
    rw (← c.self.view_is) (
      (x, at, tells.0, λ there. false≢true (sym c.if-has_entered.false ∙ c.has_entered.ensures.1 there)),
      (x, at, rw (c.change_kept.ensures, c.add_entered.ensures, c.in_ok-reserve_entered.ensures.same, c.in_ok-entered.ensures, dates, tells.1)),
    )
