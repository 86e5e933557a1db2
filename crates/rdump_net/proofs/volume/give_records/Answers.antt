use Rattle.rdump_net.proofs.Words.{[], refl, append-nil, arith, nothing, is_fault}
use Rattle.rdump_net.proofs.Reading.{extends_none, given_one, given_all, given_in_part, given_so_far, given_for_good, none_there, some_there}
use Rattle.rdump_net.proofs.volume.give_records.Goals as goal

pub loop-records-init : goal.loop-records-init
loop-records-init g c = λ device after completed replies reading.
    record { reads = []; are = refl; extends = rw append-nil (extends_none c.args.peer.now replies); took = nothing }

pub returns-in_err-bytes : goal.returns-in_err-bytes
returns-in_err-bytes g c = λ device after completed replies reading.
    rw (is_fault c.from_residual.ensures.1) (given_so_far device after completed reading (c.loop-records.invariant device after completed replies reading) c.in_err-bytes.field-0.0 c.in_err-bytes.ensures)

pub returns-then-is_empty : goal.returns-then-is_empty
returns-then-is_empty g c = λ device after completed replies reading.
    given_all device after completed reading (c.loop-records.invariant device after completed replies reading) c.in_ok-bytes.bytes.now c.in_ok-bytes.ensures
    (none_there c.in_ok-bytes.bytes.now c.is_empty.ensures c.if-is_empty.true)

pub returns-in_err-block : goal.returns-in_err-block
returns-in_err-block g c = λ device after completed replies reading.
    rw (is_fault c.from_residual-in_err-block.ensures.1) (given_in_part device after completed reading (c.loop-records.invariant device after completed replies reading) c.in_ok-bytes.bytes.now c.in_ok-bytes.ensures
    (some_there c.in_ok-bytes.bytes.now c.is_empty.ensures c.if-is_empty.false) (rw (c.in_err-block.was) at c.block.ensures))

pub loop-records-preserved : goal.loop-records-preserved
loop-records-preserved g c = λ device after completed replies reading.
    given_one device after completed reading (c.loop-records.invariant device after completed replies reading) c.in_ok-bytes.bytes.now c.in_ok-bytes.ensures
    (some_there c.in_ok-bytes.bytes.now c.is_empty.ensures c.if-is_empty.false) (rw (c.in_ok-block.was) at c.block.ensures)

pub returns : goal.returns
returns g c = λ device after completed replies reading.
    given_for_good device after completed reading (c.loop-records.invariant device after completed replies reading) _ refl (let out = c.loop-records-test.false in omega arith)
