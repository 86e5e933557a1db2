use Rattle.std.proofs.Common.{◌++◌, take, sym, ◌∙◌, arith}
use Rattle.world_host.proofs.Hosted.{pushed_hosting, pushed_seen}
use Rattle.world_host.proofs.Sides.{put_back}
use Rattle.world_host.proofs.host.Host.push.Goals as goal

pub invariant_of-self-2 : goal.invariant_of-self-2
invariant_of-self-2 c =
    let is = sym c.take_side.ensures.taken ∙ c.in-Some.is in
    let readable = (c.self.invariant.0.live c.args.connection c.in-Some.side is).readable in (
      rw (c.put_side.ensures.put, c.take_side.ensures.left, put_back)
          (pushed_hosting c.self.invariant.0 c.args.connection c.in-Some.side is c.push-count.new.self
          (readable.0 ++ take c.push-count.result c.args.bytes.now, c.push-count.ensures.unread readable.0 readable.1)),
      λ whole. omega (
        arith,
        c.put_side.ensures.len,
        c.take_side.ensures.len,
        c.put_side.ensures.room,
        c.take_side.ensures.room,
        c.self.invariant.1
            whole,
      ),
    )

pub returns : goal.returns
returns c =
    rw (← c.self.view_is, c.put_side.ensures.put, c.take_side.ensures.left, put_back)
    (pushed_seen c.self.inside.drives c.self.inside.sides.items _ c.args.connection c.in-Some.side c.args.bytes.now c.push-count.result
    c.push-count.new.self
    (sym c.take_side.ensures.taken ∙ c.in-Some.is) (λ unread u. (c.push-count.ensures.count unread u, c.push-count.ensures.unread unread u)))
