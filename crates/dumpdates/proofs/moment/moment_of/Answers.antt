use Rattle.dumpdates.proofs.Terms.{◌≡◌, ◌/◌, ◌%◌, arith}
use Rattle.dumpdates.proofs.Again.{moment_is}
use Rattle.dumpdates.proofs.moment.moment_of.Goals as goal

pub returns-clause-moment : goal.returns-clause-moment
returns-clause-moment c =
    let e = c.day_numbered-year.ensures in let s = c.args.seconds in
    let minute : s % 86400 % 3600 / 60 ≡ s % 3600 / 60 = omega arith in let second : s % 86400 % 60 ≡ s % 60 = omega arith in
    rw (e.year, e.month, e.day, minute, second) (moment_is s c.requires)
