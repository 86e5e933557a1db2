use Rattle.rmtd_args.proofs.Words.{rules, arith, subst, sym, ℕ, List, Bor, ◌≡◌, true, take_all, All, map-map, IsDrive, split_of}
use Rattle.std.proofs.lemmas.List.Elements.{All-map, All-more}
use Rattle.rmtd_args.proofs.Places.{each_at}
use Rattle.rmtd_args.proofs.drive_argument.not_drive.Goals as goal

pub returns-then-not-is_drive : goal.returns-then-not-is_drive
returns-then-not-is_drive c =
    λ all. let yes : c.is_drive.result ≡ true = c.is_drive.ensures.1 (each_at IsDrive c.args.arguments.now c.loop-argument.argument-index _ c.loop-argument-test.true all) in
    search rules

pub loop-argument-preserved : goal.loop-argument-preserved
loop-argument-preserved c =
    All-more (λ (s : Bor (List ℕ)). IsDrive (split_of s.now)) c.args.arguments.now c.loop-argument.argument-index _ c.loop-argument-test.true c.loop-argument.invariant
    (c.is_drive.ensures.0 (search rules))

pub returns : goal.returns
returns c =
    let all = take_all c.loop-argument.argument-index c.args.arguments.now (omega (arith, c.loop-argument-test.false)) in
    subst (λ ys. All IsDrive ys) (sym (map-map split_of (λ (s : Bor (List ℕ)). s.now) c.args.arguments.now))
    (All-map IsDrive (λ (s : Bor (List ℕ)). split_of s.now) c.args.arguments.now
    (subst (λ ys. All (λ (s : Bor (List ℕ)). IsDrive (split_of s.now)) ys) all c.loop-argument.invariant))
