use Rattle.std.proofs.Common.{rules, ◌≡◌, arith}
use Rattle.rdump_args.proofs.list_line.blocks_of.Goals as goal

pub returns-in-Some : goal.returns-in-Some
returns-in-Some c =
    let most : c.from.result ≡ 2147483647 = c.from.ensures in
    (omega (arith, c.if-blocks-from.true, most), search rules)
