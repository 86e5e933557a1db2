use Rattle.rmt_wire.proofs.Words.{Ok, arith, sym, ◌∙◌, dropped_line}
use Rattle.rmt_wire.proofs.WriteLines.{no_line, short_line, long_line, write_front}
use Rattle.rmt_wire.proofs.Dropped.{within_some}
use Rattle.rmt_wire.proofs.Nexts.{plain_next, plain_faulty, whole_next, less_next, line_some}
use Rattle.rmt_wire.proofs.request.reader.first_request.Goals as goal

pub returns-in_default-clause-next : goal.returns-in_default-clause-next
returns-in_default-clause-next c =
    plain_next c.args.unread.now c.args.dropped (no_line c.args.unread.now
    (sym c.in_default.is ∙ c.requires.line)) c.request_front.result c.request_front.ensures.value

pub returns-in_default-clause-for_good : goal.returns-in_default-clause-for_good
returns-in_default-clause-for_good c =
    plain_faulty c.args.unread.now c.args.dropped (no_line c.args.unread.now
    (sym c.in_default.is ∙ c.requires.line)) c.request_front.result c.request_front.ensures.value

pub returns-then-count-le-RECORD_LIMIT-clause-next : goal.returns-then-count-le-RECORD_LIMIT-clause-next
returns-then-count-le-RECORD_LIMIT-clause-next c =
    let kept = c.args.unread.now in
    let e = sym c.in-Some.is ∙ c.requires.line in
    plain_next kept c.args.dropped (short_line kept (c.in-Some.len, c.in-Some.count) e (omega arith)) (Ok c.write_at.result)
    (c.write_at.ensures.value ∙ sym (write_front kept (c.in-Some.len, c.in-Some.count) (sym e)))

pub overflow_sub-left : goal.overflow_sub-left
overflow_sub-left c =
    let e = sym c.in-Some.is ∙ c.requires.line in
    within_some _ _ _ (long_line c.args.unread.now (c.in-Some.len, c.in-Some.count) e (omega arith)) c.requires.dropped

pub returns-then-unread-len-clause-next : goal.returns-then-unread-len-clause-next
returns-then-unread-len-clause-next c =
    let e = sym c.in-Some.is ∙ c.requires.line in
    less_next c.args.unread.now c.args.dropped (c.in-Some.len, c.in-Some.count) (long_line c.args.unread.now (c.in-Some.len, c.in-Some.count) e (omega arith))
    (omega arith)

pub returns-clause-next : goal.returns-clause-next
returns-clause-next c =
    let kept = c.args.unread.now in
    let e = long_line kept (c.in-Some.len, c.in-Some.count) (sym c.in-Some.is ∙ c.requires.line) (omega arith) in
    let some = line_some kept (c.in-Some.len, c.in-Some.count) e in
    let within = within_some (dropped_line kept) (c.in-Some.len, c.in-Some.count) c.args.dropped e c.requires.dropped in
    whole_next kept c.args.dropped (c.in-Some.len, c.in-Some.count) e (omega arith) some.0 some.1
