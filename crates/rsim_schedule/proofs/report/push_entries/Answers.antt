use Rattle.rsim_schedule.proofs.Words.{◌++◌, ◌∙◌, ap, refl, flat_map, entry_text}
use Rattle.tape_world.specs.Entries.{entries_on, entry_on}
use Rattle.rsim_schedule.proofs.Reported.{entry_more, entries_over}
use Rattle.rsim_schedule.proofs.report.push_entries.Goals as goal

pub loop-place-preserved : goal.loop-place-preserved
loop-place-preserved c =
    c.in_ok-push_entry-in-Some.ensures
    ∙ entry_more (entries_on c.args.world.now.server c.args.reel.now) (entry_on c.args.world.now c.args.reel.now c.loop-place.place)
    c.args.text.now.items c.loop-place.text.items c.loop-place.place c.in-Some.length refl c.in-Some.ensures.told c.loop-place.invariant

pub returns-in-None : goal.returns-in-None
returns-in-None c =
    c.loop-place.invariant
    ∙ ap (λ l. c.args.text.now.items ++ flat_map entry_text l)
    (entries_over (entries_on c.args.world.now.server c.args.reel.now) c.loop-place.place c.in-None.ensures.told)
