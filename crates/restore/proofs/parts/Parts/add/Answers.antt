use Rattle.std.proofs.Common.{◌≡◌, ◌++◌, ◌∷◌, [], arith}
use Rattle.restore.proofs.Spacing.{one_dump_push, spacing_push}
use Rattle.restore.proofs.parts.Parts.add.Goals as goal

pub returns-clause-spaced : goal.returns-clause-spaced
returns-clause-spaced c = λ reels blocks found one spacing.
    (let self = c.args.self.now in
    let volumes = self.volumes.items in
    let items : c.push.new.self.items ≡ volumes ++ c.args.volume ∷ [] = grind (arith, c.push.ensures.items, c.is_err.ensures.negation, c.if-is_err.false) in
    let next = c.in_ok-check_later.ensures in
    rw items (one_dump_push reels self.size volumes self.gaps.items self.end self.next c.args.volume one spacing next.number next.first next.sized next.alike (blocks, found)))

pub returns-clause-spacing : goal.returns-clause-spacing
returns-clause-spacing c = λ spacing.
    (let self = c.args.self.now in
    let volumes = self.volumes.items in
    let items : c.push.new.self.items ≡ volumes ++ c.args.volume ∷ [] = grind (arith, c.push.ensures.items, c.is_err.ensures.negation, c.if-is_err.false) in
    let at : c.from-first.result ≡ c.args.volume.label.first = omega arith in
    let number : c.from-number.result ≡ c.args.volume.label.volume = omega arith in
    rw items (spacing_push volumes self.gaps.items c.add_gap.new.gaps.items self.end self.next c.args.volume c.from-first.result c.from-number.result at number
    spacing c.in_ok-add_gap.ensures))
