use Rattle.rmtd_args.proofs.Words.{◌≢◌, ap, arith, subst, take_all, AllPairs, plain_drive}
use Rattle.rmtd_args.proofs.Places.{said, apart_no, apart_yet}
use Rattle.rmtd_args.proofs.drive_argument.named_again.Goals as goal

pub returns-then-any_names : goal.returns-then-any_names
returns-then-any_names c =
    apart_no c.args.arguments.now c.loop-place.place _ (plain_drive c.split.result) c.any_names.result c.loop-place-test.true c.split.ensures c.any_names.ensures c.if-any_names.true

pub loop-place-preserved : goal.loop-place-preserved
loop-place-preserved c =
    apart_yet c.args.arguments.now c.loop-place.place _ (plain_drive c.split.result) c.any_names.result c.loop-place-test.true c.split.ensures c.any_names.ensures c.if-any_names.false
    c.loop-place.invariant

pub returns : goal.returns
returns c =
    let all = take_all c.loop-place.place c.args.arguments.now (omega (arith, c.loop-place-test.false)) in
    subst (λ ys. AllPairs (λ d e. d.device ≢ e.device) ys) (ap said all) c.loop-place.invariant
