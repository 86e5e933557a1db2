use Rattle.tape_world.proofs.Layers.{◌≡◌, refl, length, slice_get}
use Rattle.tape_world.proofs.Hearing.{counted_new, fed_moves, inside}
use Rattle.tape_world.proofs.world_state.hearing.hear.Goals as goal

pub returns : goal.returns
returns c =
    let fed = c.state-state.ensures.fed in
    let within = inside c.args.caller.now c.in-Some.caller c.in-Some.is c.requires in
    let moved = c.feed-progress.ensures.moved fed.0 fed.1 in
    let count : c.count_at.result ≡ slice_get c.feed-progress.new.self.at.counts (length c.in-Some.caller.client.at.counts)
    = cc (c.count_at.ensures, c.counted.ensures, c.counted-before.ensures) in
    record {
      before = c.in-Some.caller;
      after = record { number = c.in-Some.caller.number; client = c.feed-progress.new.self };
      fed = fed.0;
      progress = c.feed-progress.result;
      was = c.in-Some.is;
      is = refl;
      same = record { number = refl; source = c.feed-progress.ensures.same_source };
      had = fed.1;
      moved = moved;
      has = c.feed-progress.ensures.fed fed.0 fed.1;
      run = refl;
      count = counted_new c.in-Some.caller.client.at c.feed-progress.new.self.at c.feed-progress.result c.count_at.result
          (fed_moves c.in-Some.caller.client.at c.feed-progress.new.self.at fed.0 c.args.piece.now c.feed-progress.result within moved) count;
      over = c.is_over.ensures;
      failure = c.failure_of.ensures;
    }
