use Rattle.tape_world.proofs.Layers.{Some, refl, ap, subst, Asks}
use Rattle.tape_world.proofs.Talking.{asks, told_of}
use Rattle.tape_world.proofs.world_state.talk.ask.Goals as goal

pub returns-in-Ok : goal.returns-in-Ok
returns-in-Ok c =
    subst (λ r. Asks c.args.caller.now c.args.fails c.next_request-asked.new.out.items (told_of c.checkpoint-volume.result.0 r)
    (Some (record { number = c.in-Some.caller.number; client = c.source_trouble-2.new.self }))) c.in-Ok.is
    (asks c.args.caller.now c.in-Some.caller _ c.source_trouble.new.self c.next_request-asked.new.self c.args.fails _ c.args.out.now.items
    c.next_request-asked.new.out.items
    c.next_request-asked.result c.checkpoint-volume.result.0 c.requires.sends c.in-Some.is refl c.requires.room c.requires.empty c.source_trouble.ensures.source
    c.source_trouble.ensures.same c.next_request-asked.ensures.asked c.next_request-asked.ensures.read
    (λ bytes held. c.source_trouble-2.ensures.fed bytes (c.next_request-asked.ensures.fed bytes (c.source_trouble.ensures.fed bytes held)))
    c.state-state.ensures.fed c.source_trouble-2.ensures.source c.source_trouble-2.ensures.same
    ((c.next_request-asked.ensures.same_blocks c.source_trouble.new.self.source.blocks).0 refl)
    (ap (λ p. p.0) c.checkpoint-volume.ensures))
