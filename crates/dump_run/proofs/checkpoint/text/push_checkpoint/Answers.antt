use Rattle.std.proofs.Common.{Result, Ok, Err}
use Rattle.std.specs.Result.{OnErr}
use Rattle.dump_run.proofs.checkpoint.text.push_checkpoint.Goals as goal

on_any : {T E P : Type 0} (r : Result T E) → P → OnErr r P
on_any (Ok x) its = tt
on_any (Err e) its = its

pub returns-then-is_err-clause-unchanged : goal.returns-then-is_err-clause-unchanged
returns-then-is_err-clause-unchanged c = on_any c.push_lines-pushed.result (cc c.push_lines-pushed.ensures.begun)
