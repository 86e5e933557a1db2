use Rattle.dumpdates.proofs.Terms.{add-one, ap, ◌∙◌, position-Some, is_same, plain_entry, plain_stored, plain_all}
use Rattle.dumpdates.proofs.Entering.{replaced, same_dated}
use Rattle.dumpdates.proofs.list.replace.Goals as goal

pub returns : goal.returns
returns c =
    let e = plain_entry c.args.entry in let x = c.index_mut.result.now in
    let (within, here, before) = position-Some (λ s. is_same e (plain_stored s)) c.args.entries.now.items c.args.at x c.requires in
    let same = same_dated e x (ap (λ s. is_same e (plain_stored s)) c.index_mut.ensures.value ∙ here) in
    ap plain_all c.drop_same.ensures ∙ rw add-one (replaced e _ x same c.args.entries.now.items c.args.at within here before)
