use Rattle.dumpdates.proofs.Terms.{arith, rules, pos, ◌≤ℤ◌, refl, ◌∙◌, w8, w16, days_in_month_bounds, signed_casts}
use mir.Facts.{to_z_pos}
use Rattle.dumpdates.proofs.Days.{civil_of, epoch_day_from_1970}
use Rattle.dumpdates.proofs.moment.seconds_of.Goals as goal

pub overflow_cast-days : goal.overflow_cast-days
overflow_cast-days c =
    let later : pos 1970 ≤ℤ c.in-Ok.date.year = search rules in let from = epoch_day_from_1970 c.in-Ok.date later in search (rules, signed_casts)

pub returns-clause-given : goal.returns-clause-given
returns-clause-given c = (
  λ some. record {
    year = (c.if-year-lt1970.false, c.if-year-gt9999.false);
    day = (let e = c.in-Ok.ensures.value in
        civil_of c.in-Ok.date _ _ _ (e.0 ∙ to_z_pos w16 (omega arith), e.1 ∙ to_z_pos w8 (omega arith), e.2 ∙ to_z_pos w8 (omega arith)));
    hour = c.if-hour-gt23.false;
    minute = c.if-minute-gt59.false;
    second = c.if-second-gt59.false;
  },
  λ m. refl,
)

pub returns-then-year-lt1970-clause-given : goal.returns-then-year-lt1970-clause-given
returns-then-year-lt1970-clause-given c =
    let long = days_in_month_bounds (pos c.args.moment.year) c.args.moment.month in (λ some. absurd cc, λ m. absurd (omega arith))

pub returns-then-hour-gt23-clause-given : goal.returns-then-hour-gt23-clause-given
returns-then-hour-gt23-clause-given c = (λ some. absurd cc, λ m. absurd (omega arith))
