use Rattle.std.proofs.Common.{◌<◌, refl, length, ◌-◌, arith, sym}
use Rattle.std.specs.Prelude.{Contains}
use Rattle.restore.proofs.chain.repeated.Goals as goal

pub returns-then-is_same_dump : goal.returns-then-is_same_dump
returns-then-is_same_dump c =
    let item = c.in_ok-last.ensures.item in
    let some : 0 < length c.args.volumes.now = item.3.0 in
    let among : Contains c.args.volumes.now c.in_ok-last.last.now = (length c.args.volumes.now - 1, omega arith, sym item.1) in
    (c.in_ok-last.last.now, among, refl)
