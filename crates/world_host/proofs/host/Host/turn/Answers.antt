use Rattle.std.proofs.Common.{sym, ◌∙◌, arith}
use Rattle.world_host.proofs.Names.{RealServerConnection}
use Rattle.world_host.proofs.Sides.{put_back}
use Rattle.world_host.proofs.Turned.{turned_hosting, turned_seen}
use Rattle.world_host.proofs.host.Host.turn.Goals as goal

pub invariant_of-self-2 : goal.invariant_of-self-2
invariant_of-self-2 c =
    let after : RealServerConnection = record { reader = c.take_turn-turn.new.reader; session = c.take_turn-turn.new.session } in (
      rw (c.put_side.ensures.put, c.take_side.ensures.left, put_back)
          (turned_hosting c.one_holder.ensures.others c.take_turn-turn.new.drives c.self.invariant.0 c.args.connection c.in-Some.side after
          (sym c.take_side.ensures.taken ∙ c.in-Some.is) c.args.trouble c.args.lost _ _ c.take_turn-turn.result c.take_turn-turn.ensures),
      λ whole. omega (
        arith,
        c.put_side.ensures.len,
        c.take_side.ensures.len,
        c.put_side.ensures.room,
        c.take_side.ensures.room,
        c.self.invariant.1
            whole,
      ),
    )

pub returns : goal.returns
returns c =
    let after : RealServerConnection = record { reader = c.take_turn-turn.new.reader; session = c.take_turn-turn.new.session } in
    rw (← c.self.view_is, c.put_side.ensures.put, c.take_side.ensures.left, put_back)
    (turned_seen c.one_holder.ensures.others c.take_turn-turn.new.drives c.self.invariant.0 c.args.connection c.in-Some.side after
    (sym c.take_side.ensures.taken ∙ c.in-Some.is) c.args.trouble c.args.lost _ _ c.take_turn-turn.result _ c.take_turn-turn.ensures)
