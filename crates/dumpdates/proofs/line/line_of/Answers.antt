use Rattle.dumpdates.proofs.Terms.{◌∙◌, refl, sym, false≢true, plain_words, plain_fields, is_space}
use Rattle.dumpdates.proofs.Shapes.{all_from_test, not_blank, no_words, other_words, words_shape, found_entry, spelled_is_entry}
use Rattle.dumpdates.proofs.line.line_of.Goals as goal

pub returns-then-is_blank : goal.returns-then-is_blank
returns-then-is_blank c = all_from_test is_space c.args.line.now (sym c.is_blank.ensures ∙ c.if-is_blank.true)

pub returns-in_default : goal.returns-in_default
returns-in_default c = (not_blank c.args.line.now (sym c.is_blank.ensures ∙ c.if-is_blank.false), no_words c.args.line.now (sym c.in_default.ensures))

pub returns-in_default-fields_of : goal.returns-in_default-fields_of
returns-in_default-fields_of c = (
  not_blank c.args.line.now (sym c.is_blank.ensures ∙ c.if-is_blank.false),
  other_words c.args.line.now (plain_words c.in-Some.words) (sym c.in-Some.ensures) c.in_default-fields_of.ensures,
)

pub returns-in_default-seconds_of : goal.returns-in_default-seconds_of
returns-in_default-seconds_of c =
    let shape = words_shape c.args.line.now (plain_words c.in-Some.words) (plain_fields c.in-Some-fields_of.fields)
    (sym c.in-Some.ensures) c.in-Some-fields_of.ensures in
    (plain_fields c.in-Some-fields_of.fields, shape, λ m. false≢true (c.in_default-seconds_of.ensures.given.1 m))

pub invariant_of-result : goal.invariant_of-result
invariant_of-result c =
    let spelled = found_entry c.args.line.now (plain_words c.in-Some.words) (plain_fields c.in-Some-fields_of.fields) c.in-Some-seconds_of.date
    (sym c.in-Some.ensures) c.in-Some-fields_of.ensures (c.in-Some-seconds_of.ensures.given.0 refl) c.in-Some-seconds_of.ensures.value in
    let entry = spelled_is_entry c.args.line.now _ spelled in record { name_in = entry.name; level_in = entry.level; date_in = entry.date }

pub returns : goal.returns
returns c =
    found_entry c.args.line.now (plain_words c.in-Some.words) (plain_fields c.in-Some-fields_of.fields) c.in-Some-seconds_of.date
    (sym c.in-Some.ensures) c.in-Some-fields_of.ensures (c.in-Some-seconds_of.ensures.given.0 refl) c.in-Some-seconds_of.ensures.value
