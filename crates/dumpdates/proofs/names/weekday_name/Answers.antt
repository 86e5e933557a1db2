use Rattle.dumpdates.proofs.Terms.{◌≡◌, ◌+◌, ◌%◌, arith, pos, weekday_number, weekday_number-parts, signed_arith, weekday_name}
use Rattle.dumpdates.proofs.Naming.{now_at}
use Rattle.dumpdates.proofs.names.weekday_name.Goals as goal

pub returns-clause-name : goal.returns-clause-name
unfolding weekday_name
returns-clause-name c =
    let same : (c.args.day % 7 + 3) % 7 ≡ weekday_number (pos c.args.day) = omega (arith, signed_arith, weekday_number-parts (pos c.args.day)) in
    simp (now_at, same)
