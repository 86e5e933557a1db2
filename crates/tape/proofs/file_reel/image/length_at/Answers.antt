use Rattle.tape.proofs.Words.{arith}
use Rattle.tape.proofs.MediumRuns.{run_call, run_as, no_bytes}
use Rattle.tape.proofs.Images.{read_length}
use Rattle.tape.proofs.file_reel.image.length_at.Goals as goal

pub returns : goal.returns
returns g c =
    run_as (run_call c.in_ok-count.ensures.call) (λ f. f) (λ f. f) no_bytes
    (λ x y held step. (step.0, read_length c.args.at c.in_ok-count.count c.length_in.result c.read_at.new.into x (omega arith) (omega arith) c.length_in.ensures (omega arith) step.1))
