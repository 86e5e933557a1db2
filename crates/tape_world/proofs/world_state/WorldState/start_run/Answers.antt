use Rattle.tape_world.proofs.Layers.{seen_begun, IsSourced, rules, ◌≡◌, ◌+◌, sym, ap, subst, map, length, ◌∷◌, [], arith, map-append, length-append, length-map}
use Rattle.tape_world.proofs.Starting.{begun_is, begun_sourced}
use Rattle.tape_world.proofs.Saving.{backed_begun}
use Rattle.tape_world.proofs.world_state.WorldState.start_run.Goals as goal

pub invariant_of-self-2 : goal.invariant_of-self-2
invariant_of-self-2 c =
    let (b, more, parts) = c.in_ok-client.ensures.added in
    let number : c.len.result ≡ length c.self.inside.begun.items + 1
    = omega (arith, c.len.ensures, c.begin.new.begun.ok.0, ap length more, length-append c.self.inside.begun.items (b ∷ [])) in (
      (
        subst (IsSourced c.begin.new.begun.items) (sym c.change_caller.ensures)
            (begun_sourced c.begin.new.begun.items c.self.inside.begun.items b _ c.args.run.now c.args.payload.now more number parts
            c.in_ok-client.ensures.given),
        backed_begun c.begin.new.begun.items c.self.inside.begun.items b c.args.run.now c.args.payload.now c.self.inside.kept c.change_kept.new.kept more
            parts c.change_kept.ensures c.self.invariant.0.1,
      ),
      c.self.invariant.1,
    )

pub returns : goal.returns
returns c =
    let (b, more, parts) = c.in_ok-client.ensures.added in
    let before = c.self.inside.begun.items in
    let number : c.len.result ≡ length (map seen_begun before) + 1
    = omega (arith, c.len.ensures, c.begin.new.begun.ok.0, ap length more, length-append before (b ∷ []), length-map before seen_begun) in
    let added = begun_is c.args.run.now c.args.payload.now b parts in (
      (c.has_no_run.ensures.0 (search rules), c.in_ok-client.ensures.run, search rules),
      (
        c.in_ok-client.client.reader,
        rw (← c.self.view_is, c.change_kept.ensures, c.change_caller.ensures, more, map-append, added, number, c.in_ok-client.ensures.made),
      ),
    )
