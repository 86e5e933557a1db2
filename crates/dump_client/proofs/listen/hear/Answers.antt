use Rattle.dump_client.proofs.Attempt.{Ok, ap, ◌∙◌}
use Rattle.dump_client.proofs.Listening.{next_none, next_some, next_fault}
use Rattle.dump_client.proofs.listen.hear.Goals as goal

pub returns-in_err-next : goal.returns-in_err-next
returns-in_err-next c = record {
  heard = λ wanted. next_fault c.args.run.now c.args.counts.now wanted c.args.reader.now c.next.follows.lender-at-none c.in_err-next.field-0.0 c.from_residual.result
      c.in_err-next.ensures.for_good c.from_residual.ensures.1;
}

pub returns-in-None : goal.returns-in-None
returns-in-None c = record {
  heard = λ wanted. next_none c.args.run.now c.args.counts.now wanted c.args.reader.now c.next.follows.lender-at-none c.next.result c.next.follows.holds-at-none
      (c.in_ok-next.was ∙ ap Ok c.in-None.is);
}

pub returns-in-Some : goal.returns-in-Some
returns-in-Some c = record {
  heard = λ wanted bytes u.
      let w = next_some c.args.run.now c.args.counts.now wanted c.args.reader.now c.next.follows.lender-at-none c.next.result c.in-Some.reply c.next.follows.holds-at-none
      (c.in_ok-next.was ∙ ap Ok c.in-Some.is) bytes u in
      let h = c.without_text.ensures in
      (_, w.0, w.2, h, w.1);
}
