use Rattle.rmt_wire.proofs.Words.{arith, ◌≡◌, common_steps}
use Rattle.std.specs.Str.Parse.{without_leading_plus}
use Rattle.rmt_wire.proofs.argument.number_of.Goals as goal

pub returns-in-Ok : goal.returns-in-Ok
returns-in-Ok c =
    let plain : without_leading_plus c.args.text.now ≡ c.args.text.now = grind (arith, common_steps) in
    let v = rw plain at c.in-Ok.ensures.value in
    ((v.0.0.0, omega (arith, v.0.1)), v.0.1)
