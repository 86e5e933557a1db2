use Rattle.dumpdates.proofs.Terms.{sym, ap, ◌∙◌, err_from_is_err_and, entered, plain_entry}
use Rattle.dumpdates.proofs.Entering.{absent}
use Rattle.dumpdates.proofs.dates.Dates.enter.Goals as goal

pub returns-in_err-append-in-None-clause-absent : goal.returns-in_err-append-in-None-clause-absent
returns-in_err-append-in-None-clause-absent c =
    let a = absent (plain_entry c.args.entry) c.self.inside.entries.items (rw c.deref.ensures.value at (sym c.in-None.ensures)) in
    let p = err_from_is_err_and c.from_residual.result c.from_residual.ensures.1 in rw (p.1, ← c.self.view_is) a.0

pub returns-in_ok-append-in-None-clause-entered : goal.returns-in_ok-append-in-None-clause-entered
returns-in_ok-append-in-None-clause-entered c =
    let e = plain_entry c.args.entry in let a = absent e c.self.inside.entries.items (rw c.deref.ensures.value at (sym c.in-None.ensures)) in
    let last = c.in_ok-append-in-None.ensures.last in let whole = sym a.1 ∙ ap (λ d. entered d e) c.self.view_is in cc
