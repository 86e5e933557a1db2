use Rattle.rmtd_args.proofs.Words.{◌≡◌, map, take, plain_drive, split_of}
use Rattle.rmtd_args.proofs.drive_argument.drives_of.Given as goal

-- the drives of the words before the place
abbrev pub invariant-loop-argument : goal.invariant-loop-argument
invariant-loop-argument l = map plain_drive l.drives.items ≡ map split_of (map (λ s. s.now) (take l.argument-index l.arguments))
