use Rattle.tape.proofs.Words.{◌≡◌, ◌<◌, length, drop, Some, None, sym, ◌∙◌, arith, ap, length-drop, BeginsWith}
use Rattle.tape.proofs.Images.{long_tail, torn_tail}
use Rattle.tape.proofs.Scanning.{first_record}
use Rattle.tape.proofs.scan.split_record.Goals as goal

pub returns-then-length-gt-RECORD_LIMIT : goal.returns-then-length-gt-RECORD_LIMIT
returns-then-length-gt-RECORD_LIMIT c = λ bytes is. long_tail bytes c.args.length c.if-length-gt-RECORD_LIMIT.true (c.requires.small, (c.args.rest.now, is))

pub returns-in_err-record : goal.returns-in_err-record
returns-in_err-record c =
    let short : length (drop c.args.length c.args.rest.now) < 4 = omega (arith, c.in_err-record.ensures.cases, length-drop c.args.length c.args.rest.now) in
    λ bytes is. rw c.from_residual.ensures (torn_tail bytes c.args.rest.now c.args.length None c.requires.small is c.requires.some short (λ same. cc))

pub returns-in_err-again : goal.returns-in_err-again
returns-in_err-again c =
    let short : length (drop c.args.length c.args.rest.now) < 4 = omega (arith, c.in_err-again.ensures, ap length c.in_ok-record.ensures.cases.2) in
    λ bytes is. rw c.from_residual-in_err-again.ensures
    (torn_tail bytes c.args.rest.now c.args.length None c.requires.small is c.requires.some short (λ same. cc))

pub returns-then-again-length : goal.returns-then-again-length
returns-then-again-length c =
    let again = c.in_ok-again in
    let ends : BeginsWith (drop c.args.length c.args.rest.now) (Some again.again)
    = (again.ensures.0, (again.behind.now, sym c.in_ok-record.ensures.cases.2 ∙ again.ensures.1)) in
    λ bytes is. torn_tail bytes c.args.rest.now c.args.length (Some again.again) c.requires.small is c.requires.some ends
    (λ same. let one : again.again ≡ c.args.length = cc in c.if-again-length.true one)

pub returns : goal.returns
returns c =
    let split = c.in_ok-record.ensures.cases in
    λ bytes is. first_record bytes c.args.rest.now c.in_ok-record.record.now c.in_ok-again.behind.now c.args.length c.in_ok-again.again is c.requires.some
    c.if-length-gt-RECORD_LIMIT.false split.1 (sym split.2 ∙ c.in_ok-again.ensures.1) c.if-again-length.false
