use Rattle.dumpdates.proofs.Terms.{◌+◌, ◌<◌, length, arith, err_from_is_err_and, length-drop, take_rest, plain_all}
use Rattle.dumpdates.proofs.Reading.{line_refused, last_read, next_read}
use Rattle.dumpdates.proofs.Once.{one_text, spelled_no_fault}
use Rattle.dumpdates.proofs.dates.Dates.read.Goals as goal

pub returns-in_err-read_line-clause-fault : goal.returns-in_err-read_line-clause-fault
returns-in_err-read_line-clause-fault c =
    let p = err_from_is_err_and c.from_residual.result c.from_residual.ensures.1 in
    rw (p.1, p.2) (line_refused c.loop-entries.rest.now c.loop-entries.invariant.read c.line_len-len.ensures.value c.in_err-read_line.field-0.0
    c.in_err-read_line.ensures.refused)

pub returns-in_err-read_line-clause-only : goal.returns-in_err-read_line-clause-only
returns-in_err-read_line-clause-only c =
    let p = err_from_is_err_and c.from_residual.result c.from_residual.ensures.1 in
    rw (p.1, p.2) (λ entries s. spelled_no_fault c.args.bytes.now entries c.in_err-read_line.field-0.0 s
    (line_refused c.loop-entries.rest.now c.loop-entries.invariant.read c.line_len-len.ensures.value c.in_err-read_line.field-0.0
    c.in_err-read_line.ensures.refused))

pub returns-then-len-rest-clause-spelled : goal.returns-then-len-rest-clause-spelled
returns-then-len-rest-clause-spelled c =
    last_read c.loop-entries.rest.now c.loop-entries.invariant.read c.line_len-len.ensures.value
    (plain_all c.read_line.new.entries.items) c.if-len-rest.true c.in_ok-read_line.ensures.added

pub returns-then-len-rest-clause-only : goal.returns-then-len-rest-clause-only
returns-then-len-rest-clause-only c =
    one_text c.args.bytes.now (plain_all c.read_line.new.entries.items) (returns-then-len-rest-clause-spelled c)

pub loop-entries-preserved : goal.loop-entries-preserved
loop-entries-preserved c =
    let rest = c.loop-entries.rest.now in let len = c.line_len-len.result in let less : len < length rest = omega arith in
    rw (take_rest rest (len + 1)) (record {
      read = next_read rest c.loop-entries.invariant.read c.line_len-len.ensures.value
          (plain_all c.read_line.new.entries.items) less c.in_ok-read_line.ensures.added;
      room = omega (arith, length-drop (len + 1) rest);
    })
