use Rattle.std.proofs.Common.{◌≡◌, ◌++◌, ◌∷◌, [], Some, arith}
use Rattle.restore.proofs.FoundMore.{none_more, one_more}
use Rattle.restore.specs.Found.{IsFoundOn}
use Rattle.restore.proofs.found.add_found.Goals as goal

pub returns-in_default : goal.returns-in_default
returns-in_default c = λ reels wanted number is are. none_more reels wanted c.args.found.now.items number are (rw c.in_default.is at is)

pub returns : goal.returns
returns c = λ reels wanted number is are.
    (let some : IsFoundOn reels wanted number (Some c.in-Some.volume) = rw c.in-Some.is at is in
    let items : c.push.new.self.items ≡ c.args.found.now.items ++ c.in-Some.volume ∷ [] = grind (arith, c.push.ensures.items, c.is_err.ensures.negation, c.if-is_err.false) in
    rw items (one_more reels wanted c.args.found.now.items number c.in-Some.volume are some.0 some.1))
