use Rattle.rdump_net.proofs.Words.{◌≡◌, subst, IsPrinted, count_line}
use Rattle.rdump_net.proofs.lines.print_count.Goals as goal

pub returns : goal.returns
returns g c =
    let e : c.as_bytes.result.now ≡ count_line c.args.count = cc in
    subst (λ line. IsPrinted g.W.Write.contents line c.args.out.now c.print_text.new.out c.print_text.result) e c.print_text.ensures
