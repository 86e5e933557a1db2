use Rattle.volume_check.proofs.Words.{ℕ, List, run_as, no_bytes}
use Rattle.std.proofs.lemmas.Result.{IfOk-weaker}
use Rattle.volume_check.proofs.Telling.{tells_entry}
use Rattle.volume_check.proofs.check.add_entry.Goals as goal

pub returns : goal.returns
returns g c =
    let told = λ (x : List ℕ). tells_entry x c.args.at c.args.length c.args.tally.now c.add_record.new.tally c.if-length-eq0.false in
    run_as c.add_record.ensures (λ f. f) (λ f. f) no_bytes (λ x y held step. (step.0, IfOk-weaker c.add_record.result _ _ (λ _. told x) step.1))
