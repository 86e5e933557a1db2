use Rattle.std.proofs.Common.{length, inr}
use Rattle.std.proofs.lemmas.Bool.{le-leb, leb-true}
use Rattle.sockets.proofs.Paths.{short_path}
use Rattle.sockets.proofs.address.is_address.Goals as goal

pub returns-in-Some : goal.returns-in-Some
returns-in-Some c =
    let path = c.in-Some.path.now in
    let is = c.in-Some.ensures in (
      (λ yes. inr (path, is, leb-true (length path) 107 yes)),
      λ has. le-leb (length path) 107 (short_path c.args.text.now path is has),
    )
