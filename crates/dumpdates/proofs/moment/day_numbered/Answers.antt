use Rattle.dumpdates.proofs.Terms.{◌≡◌, arith, pos, ap, ◌∙◌, signed_casts, epoch_day, day_numbered}
use Rattle.dumpdates.proofs.Days.{first_is_zero, date_is_numbered}
use Rattle.dumpdates.proofs.moment.day_numbered.Goals as goal

pub unwrap-day-requires : goal.unwrap-day-requires
unwrap-day-requires c =
    let zero = ap epoch_day c.to_plain-first.ensures ∙ first_is_zero c.date.result c.date.ensures in
    c.checked_add.ensures.succeeds.1 (omega (arith, signed_casts))

parts : (c : goal.After-struct_told-1) → (c.unwrap-day.result.year ≡ pos (day_numbered c.args.number).year)
    × (c.unwrap-day.result.month ≡ (day_numbered c.args.number).month) × (c.unwrap-day.result.day ≡ (day_numbered c.args.number).day)
parts c =
    let zero = ap epoch_day c.to_plain-first.ensures ∙ first_is_zero c.date.result c.date.ensures in
    let later = rw c.unwrap-day.ensures at c.checked_add.ensures.value in
    date_is_numbered c.args.number c.unwrap-day.result c.requires (omega (arith, signed_casts))

pub overflow_cast-result : goal.overflow_cast-result
overflow_cast-result c = let p = parts c in omega (arith, signed_casts)

pub returns-clause-year : goal.returns-clause-year
returns-clause-year c = let p = parts c in omega (arith, signed_casts)

pub returns-clause-month : goal.returns-clause-month
returns-clause-month c = (parts c).1

pub returns-clause-day : goal.returns-clause-day
returns-clause-day c = (parts c).2
