use Rattle.rmtd_args.proofs.Words.{◌≢◌, map, take, AllPairs, split_of}
use Rattle.rmtd_args.proofs.drive_argument.named_again.Given as goal

-- no two words before the place name one device
abbrev pub invariant-loop-place : goal.invariant-loop-place
invariant-loop-place l = AllPairs (λ d e. d.device ≢ e.device) (map split_of (map (λ s. s.now) (take l.place l.arguments)))
