use Rattle.dump_run.proofs.Words.{◌≡◌, ◌+◌, ◌-◌, length, ap, sym, ◌∙◌, arith, length-take-le}
use Rattle.dump_run.proofs.LabelText.{zeros_behind}
use Rattle.dump_run.proofs.lines.TextLines.push.Goals as goal

pub invariant_of-self : goal.invariant_of-self
invariant_of-self c =
    let end = c.self.inside.end in
    let bytes = c.self.inside.bytes in
    let next = end + length c.args.text.now in
    let all : length bytes ≡ 1024 = c.self.told in
    let inside = c.self.invariant.0 in
    let held : length c.args.self.now ≡ end = ap length (sym c.self.view_is) ∙ length-take-le end bytes (omega arith) in
    let put : length c.copy_from_slice.new.self ≡ next - end = omega (arith, ap length c.copy_from_slice.ensures.after) in
    (omega arith, zeros_behind end next (next - end) bytes c.copy_from_slice.new.self (omega arith) put (omega arith) all c.self.invariant.1)
