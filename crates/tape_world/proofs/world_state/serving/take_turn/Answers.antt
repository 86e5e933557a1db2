use Rattle.tape_world.proofs.Layers.{ServesAt, plain_connection, sym, subst}
use Rattle.tape_world.proofs.Serving.{serves_connection}
use Rattle.tape_world.proofs.world_state.serving.take_turn.Goals as goal

pub returns-clause-taken : goal.returns-clause-taken
returns-clause-taken c =
    serves_connection c.args.trouble c.args.host.now c.take_reply-turn.new.host c.args.connection c.take_reply-turn.result (plain_connection c.args.conn.now)
    (plain_connection c.note_turn.new.self)
    c.trim.new.self.way
    (subst (λ way. ServesAt c.args.trouble c.args.conn.now.cut c.args.host.now c.args.connection c.args.conn.now.back.way c.take_reply-turn.result
    c.take_reply-turn.new.host way)
    (sym c.trim.ensures)
    (subst (λ way. ServesAt c.args.trouble c.args.conn.now.cut c.args.host.now c.args.connection way c.take_reply-turn.result c.take_reply-turn.new.host
    c.take_reply-turn.new.self.way)
    c.in_ok-reserve.ensures.same c.take_reply-turn.ensures))
    c.note_turn.ensures
