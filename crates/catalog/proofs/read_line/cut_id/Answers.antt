use Rattle.std.proofs.Common.{◌≡◌, ◌++◌, Some, sym, ap, ◌∙◌, arith}
use Rattle.catalog.proofs.LineText.{name_lacks}
use Rattle.catalog.proofs.OneLine.{id_cut, small_id}
use Rattle.catalog.proofs.read_line.cut_id.Goals as goal

pub returns-in_err-id : goal.returns-in_err-id
returns-in_err-id c = λ d more good is.
    (let few = small_id d good in
    let name = c.cut.ensures d.name _ (name_lacks d.name good.name) (is ∙ ap (λ t. c.args.word.now ++ t) (id_cut d _)) in
    let level = c.cut_number-level.ensures d.level _ few.level name.1 in let date = c.cut_number-date.ensures d.date _ few.date level.1 in
    let since = c.cut_number-since.ensures d.since more few.since date.1 in
    let clash = sym c.in_err-id.was ∙ c.id_of.ensures d good name.0 level.0 date.0 since.0 in cc)

pub returns : goal.returns
returns c = λ d more good is.
    (let few = small_id d good in
    let name = c.cut.ensures d.name _ (name_lacks d.name good.name) (is ∙ ap (λ t. c.args.word.now ++ t) (id_cut d _)) in
    let level = c.cut_number-level.ensures d.level _ few.level name.1 in let date = c.cut_number-date.ensures d.date _ few.date level.1 in
    let since = c.cut_number-since.ensures d.since more few.since date.1 in
    let both = sym c.in_ok-id.was ∙ c.id_of.ensures d good name.0 level.0 date.0 since.0 in let one : c.in_ok-id.id ≡ d = cc in
    (c.cut_number-since.result.1, ap (λ i. Some (i, c.cut_number-since.result.1)) one, since.1))
