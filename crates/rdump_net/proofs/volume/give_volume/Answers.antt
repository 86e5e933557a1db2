use Rattle.rdump_net.proofs.Words.{◌++◌, ◌∷◌, [], Data, is_fault}
use Rattle.rdump_net.proofs.Reading.{given_unread, given_mark, given_unlabelled, given_so, none_there, some_there}
use Rattle.rdump_net.proofs.volume.give_volume.Goals as goal

pub returns-in_err-label : goal.returns-in_err-label
returns-in_err-label g c = λ device after completed replies fresh.
    rw (is_fault c.from_residual.ensures.1) (given_unread device after completed fresh c.args.sink.now c.in_err-label.field-0.0 c.in_err-label.ensures)

pub returns-then-is_empty : goal.returns-then-is_empty
returns-then-is_empty g c = λ device after completed replies fresh.
    given_mark device after completed fresh c.args.sink.now c.in_ok-label.label.now c.in_ok-label.ensures (none_there c.in_ok-label.label.now c.is_empty.ensures c.if-is_empty.true)

pub returns-in-Stop : goal.returns-in-Stop
returns-in-Stop g c = λ device after completed replies fresh.
    given_unlabelled device after completed fresh c.in_ok-label.label.now c.in_ok-label.ensures (some_there c.in_ok-label.label.now c.is_empty.ensures c.if-is_empty.false)
    (rw (c.in-Stop.is) at c.label.ensures)

pub returns-in-GoOn : goal.returns-in-GoOn
returns-in-GoOn g c = λ device after completed replies fresh.
    given_so device after completed fresh c.in_ok-label.label.now c.in_ok-label.ensures (some_there c.in_ok-label.label.now c.is_empty.ensures c.if-is_empty.false)
    (rw (c.in-GoOn.is) at c.label.ensures) (c.give_records.ensures device after completed (replies ++ Data c.in_ok-label.label.now ∷ []))
