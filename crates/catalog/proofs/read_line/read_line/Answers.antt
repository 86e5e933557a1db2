use Rattle.std.proofs.Common.{◌≡◌, Some, sym, ap, ◌∙◌}
use Rattle.std.proofs.lemmas.Bool.{true≢false}
use Rattle.catalog.specs.declared.line.CatalogLine.TheVariants.{Begun, Volume, Finished}
use Rattle.catalog.proofs.OneLine.{reads_begun, reads_finished, reads_volume}
use Rattle.catalog.proofs.read_line.read_line.Goals as goal

pub returns-in_err-read_begun : goal.returns-in_err-read_begun
returns-in_err-read_begun c = λ l more good is.
    (let begins = c.begins_with.ensures.0 c.if-begins_with.true in
    let it = reads_begun c.args.bytes.now begins.0 c.read_begun.result l more begins.1 c.read_begun.ensures good is in
    let clash = sym c.in_err-read_begun.was ∙ it.2 in cc)

pub returns-then-begins_with : goal.returns-then-begins_with
returns-then-begins_with c = λ l more good is.
    (let begins = c.begins_with.ensures.0 c.if-begins_with.true in
    let it = reads_begun c.args.bytes.now begins.0 c.read_begun.result l more begins.1 c.read_begun.ensures good is in
    let both : Some c.in_ok-read_begun.field-0 ≡ Some it.0 = sym c.in_ok-read_begun.was ∙ it.2 in
    let one : c.in_ok-read_begun.field-0 ≡ it.0 = cc in ap (λ b. Some (Begun b)) one ∙ ap Some (sym it.1))

pub returns-in_err-read_finished : goal.returns-in_err-read_finished
returns-in_err-read_finished c = λ l more good is.
    (let begins = c.begins_with-2.ensures.0 c.if-begins_with-2.true in
    let it = reads_finished c.args.bytes.now begins.0 c.read_finished.result l more begins.1 c.read_finished.ensures good is in
    let clash = sym c.in_err-read_finished.was ∙ it.2 in cc)

pub returns-then-begins_with-2 : goal.returns-then-begins_with-2
returns-then-begins_with-2 c = λ l more good is.
    (let begins = c.begins_with-2.ensures.0 c.if-begins_with-2.true in
    let it = reads_finished c.args.bytes.now begins.0 c.read_finished.result l more begins.1 c.read_finished.ensures good is in
    let both : Some c.in_ok-read_finished.field-0 ≡ Some it.0 = sym c.in_ok-read_finished.was ∙ it.2 in
    let one : c.in_ok-read_finished.field-0 ≡ it.0 = cc in ap (λ f. Some (Finished f)) one ∙ ap Some (sym it.1))

pub returns-in_err-read_volume : goal.returns-in_err-read_volume
returns-in_err-read_volume c = λ l more good is.
    (let it = reads_volume c.args.bytes.now c.read_volume.result l more
    (λ rest k. true≢false (sym (c.begins_with.ensures.1 (rest, k)) ∙ c.if-begins_with.false))
    (λ rest k. true≢false (sym (c.begins_with-2.ensures.1 (rest, k)) ∙ c.if-begins_with-2.false)) c.read_volume.ensures good is in
    let clash = sym c.in_err-read_volume.was ∙ it.2 in cc)

pub returns : goal.returns
returns c = λ l more good is.
    (let it = reads_volume c.args.bytes.now c.read_volume.result l more
    (λ rest k. true≢false (sym (c.begins_with.ensures.1 (rest, k)) ∙ c.if-begins_with.false))
    (λ rest k. true≢false (sym (c.begins_with-2.ensures.1 (rest, k)) ∙ c.if-begins_with-2.false)) c.read_volume.ensures good is in
    let both : Some c.in_ok-read_volume.field-0 ≡ Some it.0 = sym c.in_ok-read_volume.was ∙ it.2 in
    let one : c.in_ok-read_volume.field-0 ≡ it.0 = cc in ap (λ v. Some (Volume v)) one ∙ ap Some (sym it.1))
