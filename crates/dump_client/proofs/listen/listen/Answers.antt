use Rattle.dump_client.proofs.Attempt.{Ok, ◌∙◌, ap, subst, arith, ◌++◌, take_all, take_rest, IsReaderWaiting}
use Rattle.dump_client.proofs.Listening.{takes, none_yet, reply_comes, noise}
use Rattle.dump_client.proofs.listen.listen.Goals.{then-not-is_empty, else-not-is_empty}
use Rattle.dump_client.proofs.listen.listen.Goals as goal

pub overflow_add-at : goal.overflow_add-at
overflow_add-at c =
    omega (arith, takes c.loop-at.reader c.args.piece.now c.loop-at.at c.push-at.result c.loop-at.invariant.1 c.push-at.ensures.count c.loop-at-test.true)

pub loop-at-smaller : goal.loop-at-smaller
loop-at-smaller c =
    omega (arith, takes c.loop-at.reader c.args.piece.now c.loop-at.at c.push-at.result c.loop-at.invariant.1 c.push-at.ensures.count c.loop-at-test.true)

pub loop-at-preserved : goal.loop-at-preserved
loop-at-preserved c =
    let now = c.loop-at.invariant.1 in
    let at_none = c.in-Ok-None.is ∙ ap Ok c.in-Ok-None.field-0-is in (
      omega (arith, takes c.loop-at.reader c.args.piece.now c.loop-at.at c.push-at.result now c.push-at.ensures.count c.loop-at-test.true),
      (_, _, rw at_none at (c.hear.ensures.heard _ _ (c.push-at.ensures.unread _ now.1 now.2.unread))),
      λ wanted bytes u.
          none_yet c.args.run.now c.args.counts.now wanted bytes c.args.piece.now _ c.loop-at.at c.push-at.result (take_rest c.args.piece.now c.loop-at.at) _ _
          (c.hear.ensures.heard wanted _ (c.push-at.ensures.unread _ _ (c.loop-at.invariant.2 wanted bytes u).unread)) at_none,
    )

pub returns-in-Ok-Some : goal.returns-in-Ok-Some
returns-in-Ok-Some c = record {
  feed_result = λ wanted bytes u.
      let comes =
      reply_comes c.args.run.now c.args.counts.now wanted bytes c.args.piece.now _ c.loop-at.at c.push-at.result (take_rest c.args.piece.now c.loop-at.at) c.hear.result c.hear.new.reader
      (c.hear.ensures.heard wanted _ (c.push-at.ensures.unread _ _ (c.loop-at.invariant.2 wanted bytes u).unread)) c.in-Ok-Some.heard c.is_empty.result
      (c.in-Ok-Some.is ∙ ap Ok c.in-Ok-Some.field-0-is) (λ rest held. c.is_empty.ensures.value _ rest held) in
      elim c.if-not-is_empty.branch [
        | then-not-is_empty w ↦ rw w.more-is (comes.0 w.if-not-is_empty.true)
        | else-not-is_empty w ↦ rw w.more-is (comes.1 w.if-not-is_empty.false)
      ];
}

pub returns-in-Err : goal.returns-in-Err
returns-in-Err c = record {
  feed_result = λ wanted bytes u.
      noise c.args.run.now c.args.counts.now wanted bytes c.args.piece.now _ c.loop-at.at c.push-at.result (take_rest c.args.piece.now c.loop-at.at) c.hear.result c.hear.new.reader
      (c.hear.ensures.heard wanted _ (c.push-at.ensures.unread _ _ (c.loop-at.invariant.2 wanted bytes u).unread)) c.in-Err.field-0 c.in-Err.is;
}

pub returns : goal.returns
returns c = record {
  feed_result = λ wanted bytes u.
      subst (λ l. IsReaderWaiting wanted c.loop-at.reader (bytes ++ l)) (take_all c.loop-at.at c.args.piece.now c.loop-at-test.false) (c.loop-at.invariant.2 wanted bytes u);
}
