use Rattle.tape_world.proofs.Layers.{changed, Serve, Happens, the_view, HistoryHeld, IsWorldKept, TurnServes, IsLibraryKnown, ◌≡◌, ◌≢◌, refl, sym, ap, subst, ◌∙◌, World}
use Rattle.tape_world.proofs.Numbered.{same_connections}
use Rattle.tape_world.proofs.Known.{known_after}
use Rattle.tape_world.proofs.ServingRow.{nothing_there, turned, serves_happens, opened_known, written_known, online_in, noted_history}
use Rattle.tape_world.proofs.world_state.WorldState.serve.Goals.{In_ok-turn}
use Rattle.world_host.specs.declared.turn.Turn.TheVariants as turns
use Rattle.tape_world.proofs.world_state.WorldState.serve.Goals as goal

-- the world after the turn
abbrev after_turn : In_ok-turn → World
after_turn c = turned (the_view c.self.inside) c.args.connection c.take_turn_at.new.host.server c.in_ok-turn.turn c.take_turn_at.new.connections.list

-- a request or a fault was served: the opening or the writing is to be noted
happens : (c : In_ok-turn) → c.in_ok-turn.turn ≢ turns.Nothing → Happens (the_view c.self.inside) (Serve c.args.connection c.args.trouble) (after_turn c)
happens c some =
    serves_happens c.args.trouble c.args.connection (the_view c.self.inside) c.self.inside.host c.take_turn_at.new.host c.in_ok-turn.turn
    c.take_turn_at.new.connections.list refl c.in_ok-turn.ensures.taken some

-- so no reel came or went
known : (c : In_ok-turn) → c.in_ok-turn.turn ≢ turns.Nothing → IsLibraryKnown c.self.inside.history.names c.take_turn_at.new.host.server.library
known c some =
    known_after c.self.inside.history.names (the_view c.self.inside) (after_turn c) c.take_turn_at.new.host.server.library
    (c.kept.ensures.names (the_view c.self.inside) (after_turn c) (Serve c.args.connection c.args.trouble) (subst IsWorldKept (sym c.self.view_is) c.requires)
    (happens c some)) refl c.self.invariant.1

-- and all stays so
kept : (c : In_ok-turn) → c.in_ok-turn.turn ≢ turns.Nothing → IsWorldKept (after_turn c)
kept c some =
    c.kept.ensures.after (the_view c.self.inside) (after_turn c) (Serve c.args.connection c.args.trouble) (subst IsWorldKept (sym c.self.view_is) c.requires)
    (happens c some)

pub returns-in-Nothing : goal.returns-in-Nothing
returns-in-Nothing c =
    let w = the_view c.self.inside in
    let t = subst (λ turn. TurnServes c.args.trouble c.self.inside.host c.args.connection turn c.take_turn_at.new.host
    (λ f. c.take_turn_at.new.connections.list ≡ changed f w.connections c.args.connection)) c.in-Nothing.is c.in_ok-turn.ensures.taken in
    let here = t.2 ∙ same_connections w.connections c.args.connection in (
      rw (c.in_ok-reserve_notes.ensures.same, here, t.1) c.self.view_is,
      nothing_there c.args.trouble c.args.connection c.args.self.now c.self.inside.host.server (ap (λ v. v.server) (sym c.self.view_is)) t.0,
    )

pub note_turn-requires : goal.note_turn-requires
note_turn-requires c =
    let at = (goal.at.note_turn-requires c).In_ok-turn in
    let some = c.in_default.not-Nothing in
    let after = kept at some in
    let same = sym c.in_ok-reserve_notes.ensures.same in
    let all = subst (λ (b : HistoryHeld). IsLibraryKnown b.names c.take_turn_at.new.host.server.library) same (known at some) in
    record {
      room = c.in_ok-reserve_notes.ensures.room;
      there = online_in c.take_turn_at.new.host.server c.args.connection after.held;
      opened = λ name. opened_known _ (the_view c.self.inside) c.args.connection c.take_turn_at.new.host.server c.in_ok-turn.turn _ name after all;
      written = λ name. written_known _ (the_view c.self.inside) c.args.connection c.take_turn_at.new.host.server c.in_ok-turn.turn _ name after all;
    }

pub invariant_of-self-2 : goal.invariant_of-self-2
invariant_of-self-2 c =
    let same = c.note_turn.ensures.names ∙ ap (λ b. b.names) c.in_ok-reserve_notes.ensures.same in
    let all = known (goal.at.invariant_of-self-2 c).In_ok-turn c.in_default.not-Nothing in
    (c.self.invariant.0, subst (λ names. IsLibraryKnown names c.take_turn_at.new.host.server.library) (sym same) all)

pub returns : goal.returns
returns c =
    let w = the_view c.self.inside in
    let noted = noted_history w c.take_turn_at.new.host.server c.take_turn_at.new.connections.list c.self.inside.history c.reserve_notes.new.self
    c.note_turn.new.self c.in_ok-list.list.items c.args.connection c.in_ok-turn.turn c.in_ok-list.ensures c.in_ok-reserve_notes.ensures.same
    c.note_turn.ensures in
    rw (← c.self.view_is) (subst (Happens w (Serve c.args.connection c.args.trouble)) (sym noted)
    (happens (goal.at.returns c).In_ok-turn c.in_default.not-Nothing))
