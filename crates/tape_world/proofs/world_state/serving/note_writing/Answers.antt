use Rattle.tape_world.proofs.Layers.{refl, sym, ap, ◌∙◌, map, option_copied, writing, seen_writing}
use Rattle.tape_world.proofs.Serving.{noted_more}
use Rattle.tape_world.proofs.world_state.serving.note_writing.Goals as goal

pub returns : goal.returns
returns c =
    let named = sym c.name_written.ensures ∙ ap option_copied c.in-Some.is in
    noted_more c.args.names.now (seen_writing (map (λ n. n.items) c.args.names.now)) (writing c.args.connection c.args.after)
    (λ place. record { connection = c.args.connection; reel = place; after = c.args.after }) _ _ c.place_of-reel.result c.in-Some.name.now _ (λ i. refl) named
    (c.requires.known _ named) c.place_of-reel.ensures c.push_reserved.ensures.items
