-- The plain value of a moment in memory. A plain value is what contracts use for a value that the
-- code has in memory. No public contract needs it.
use Rattle.dumpdates.specs.Moment.{PlainMoment}
use Rattle.dumpdates.specs.declared.moment.Moment.{Moment}

-- the plain value of a moment
abbrev pub plain_moment : Moment → PlainMoment
plain_moment m = record { year = m.year; month = m.month; day = m.day; hour = m.hour; minute = m.minute; second = m.second }
