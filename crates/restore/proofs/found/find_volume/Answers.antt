use Rattle.std.proofs.Common.{◌∙◌, ap, sym, subst}
use Rattle.std.specs.Option.{option_copied}
use Rattle.restore.proofs.Findings.{none_whole, of_another, with_catalog, without_catalog}
use Rattle.restore.specs.Found.{IsFoundIn}
use Rattle.restore.specs.Restored.{PlainWanted}
use Rattle.restore.proofs.found.find_volume.Goals as goal

pub returns-in_default : goal.returns-in_default
returns-in_default g c = λ bytes held.
    (let found = c.whole_volume.ensures bytes (λ entries spelled. c.in_ok-contents.ensures.told bytes entries held spelled) in
    none_whole bytes c.args.wanted.now c.args.number (subst (IsFoundIn bytes c.args.number) c.in_default.is found))

pub returns-then-not-fits : goal.returns-then-not-fits
returns-then-not-fits g c = λ bytes held.
    (let found = c.whole_volume.ensures bytes (λ entries spelled. c.in_ok-contents.ensures.told bytes entries held spelled) in
    of_another c.one_holding.ensures bytes c.args.wanted.now c.args.number c.in-Some.volume (subst (IsFoundIn bytes c.args.number) c.in-Some.is found)
    (λ fits. let fit = c.fits.ensures.1 fits in cc))

pub returns-in_default-lines : goal.returns-in_default-lines
returns-in_default-lines g c = λ bytes held.
    (let found = c.whole_volume.ensures bytes (λ entries spelled. c.in_ok-contents.ensures.told bytes entries held spelled) in
    let lines_are = ap (λ (w : PlainWanted). w.lines) c.wanted.view_is in
    without_catalog bytes c.args.wanted.now c.args.number c.in-Some.volume (subst (IsFoundIn bytes c.args.number) c.in-Some.is found)
    (c.fits.ensures.0 c.if-not-fits.false) (cc))

pub returns : goal.returns
returns g c = λ bytes held.
    (let found = c.whole_volume.ensures bytes (λ entries spelled. c.in_ok-contents.ensures.told bytes entries held spelled) in
    let (x, holds, same) = c.contents_of.ensures.same bytes held in
    let lines_are = ap (λ (w : PlainWanted). w.lines) c.wanted.view_is in
    let sum = c.in_ok-sum.ensures.hashed bytes (rw same at holds) in
    with_catalog c.one_holding.ensures bytes c.args.wanted.now c.args.number c.in-Some.volume c.in-Some-lines.lines.now c.compare-verdict.result c.by_verdict.result
    (subst (IsFoundIn bytes c.args.number) c.in-Some.is found) (c.fits.ensures.0 c.if-not-fits.false) (sym lines_are ∙ ap option_copied c.in-Some-lines.is) (rw sum at c.compare-verdict.ensures) c.by_verdict.ensures)
