use Rattle.dumpdates.proofs.Terms.{◌∙◌, ap, sym, length}
use Rattle.dumpdates.proofs.Entering.{cut_behind}
use Rattle.dumpdates.proofs.list.drop_same.Goals as goal

pub returns : goal.returns
returns c =
    let slice = c.as_mut_slice.ensures in let e = c.split_at_mut-later.ensures in let kept = c.keep_others-kept.ensures in
    let cut = cut_behind c.args.entries.now.items c.split_at_mut-later.result.0.now c.split_at_mut-later.result.1.now c.keep_others-kept.new.entries
    c.truncate.new.self.items _
    c.args.from c.keep_others-kept.result (sym slice.len ∙ ap length slice.value)
    (sym slice.value ∙ e.value) e.front_len c.keep_others-kept.auto.entries kept.within c.truncate.ensures.items in cc
