use Rattle.dump_run.proofs.Words.{IsName}
use Rattle.dump_run.proofs.FieldCut.{other_kind, name_lacks}
use Rattle.dump_run.proofs.checkpoint.field.name_field.Goals as goal

pub returns-in_err-name-clause-found : goal.returns-in_err-name-clause-found
returns-in_err-name-clause-found c = rw c.from_residual.ensures (λ text more its. c.in_err-name.ensures text more (name_lacks text its))

pub returns-then-not-is_name-clause-found : goal.returns-then-not-is_name-clause-found
returns-then-not-is_name-clause-found c =
    other_kind IsName c.args.word.now c.args.bytes.now c.in_ok-name.name.now c.in_ok-name.more.now name_lacks c.in_ok-name.ensures.0
    c.in_ok-name.ensures.1 (λ its. (let no_such = c.if-not-is_name.ensures.name.1 its in cc))
