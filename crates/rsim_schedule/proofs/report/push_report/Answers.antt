use Rattle.rsim_schedule.proofs.Words.{◌++◌, sym, ap, ◌∙◌, codes, map-map, KeptReel, ReelSlot, names_of, rest_slot, names_text}
use Rattle.rsim_schedule.proofs.Reported.{joined}
use Rattle.rsim_schedule.proofs.report.push_report.Goals as goal

pub returns : goal.returns
returns c =
    let names = sym (map-map (λ (x : ReelSlot KeptReel). x.name) rest_slot c.bin.result.now) ∙ ap (λ l. names_of l) c.bin.ensures in
    joined _ _ (codes "bin") (names_text (names_of c.args.world.now.server.library.bin)) (codes "\n") _ (codes "dumpdates\n") _
    c.args.text.now.items c.push_all_reels.new.text.items c.push_stacks.new.text.items c.push_names.new.text.items
    c.push_counts.new.text.items c.push_dates.new.text.items
    c.requires c.in_ok-push_all_reels.ensures c.in_ok-push_stacks.ensures
    (c.in_ok-push_names.ensures ∙ ap (λ l. c.push_stacks.new.text.items ++ codes "bin" ++ names_text l ++ codes "\n") names)
    c.in_ok-push_counts.ensures c.in_ok-push_dates.ensures
