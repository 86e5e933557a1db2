use Rattle.rmtd_args.proofs.Words.{take, All, IsDrive, split_of}
use Rattle.rmtd_args.proofs.drive_argument.not_drive.Given as goal

-- the words before the place name drives
abbrev pub invariant-loop-argument : goal.invariant-loop-argument
invariant-loop-argument l = All (λ s. IsDrive (split_of s.now)) (take l.argument-index l.arguments)
