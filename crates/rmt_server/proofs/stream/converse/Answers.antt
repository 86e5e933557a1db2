use Rattle.std.proofs.Common.{[], Some, None, Ok, Err, refl, append-nil, ◌∙◌}
use Rattle.std.proofs.KnownBytes.{Consumes-nil, Consumes-kept}
use Rattle.rmt_server.proofs.Answering.{advances_none, advances_as, answered_none, settled_empty, progress_then, output_failed}
use Rattle.rmt_server.proofs.stream.converse.Goals as goal

pub loop-wire-init : goal.loop-wire-init
loop-wire-init g c = (
  c.requires.at,
  refl,
  refl,
  record {
    read = [];
    consumed = Consumes-nil (g.R.Read.remaining c.args.input.now.inner);
    steps = advances_none [] (answered_none (g.W.Write.contents c.args.output.now.inner) [], settled_empty c.args.wire.now c.requires.empty);
  },
)

pub returns-in_err-fault-in-Ok-clause-converses : goal.returns-in_err-fault-in-Ok-clause-converses
returns-in_err-fault-in-Ok-clause-converses g c =
    let p = progress_then (Err c.in_err-fault-in-Ok.field-0.0) c.answer_all.new.output c.answer_all.new.wire c.loop-wire.invariant.3
    c.in-Ok.ensures.came c.loop-wire.invariant.2 c.in_err-fault-in-Ok.ensures.answers in
    (p.read, p.consumed, rw (output_failed c.from_residual.result c.from_residual.ensures.1) p.steps)

pub returns-in-Some-clause-converses : goal.returns-in-Some-clause-converses
returns-in-Some-clause-converses g c =
    let p = progress_then (Ok (Some c.in-Some.fault)) c.answer_all.new.output c.answer_all.new.wire c.loop-wire.invariant.3 c.in-Ok.ensures.came
    c.loop-wire.invariant.2 (rw c.in-Some.is at c.in_ok-fault-in-Ok.ensures.answers) in
    (p.read, p.consumed, advances_as p.steps (λ done rest q. let f = rw append-nil at (q.1 []) in (q.0, f.0, f.1)))

pub loop-wire-preserved : goal.loop-wire-preserved
loop-wire-preserved g c = (
  c.answer_all.ensures.at,
  c.in-Ok.ensures.steady ∙ c.loop-wire.invariant.1,
  c.in_ok-fault-in-Ok.ensures.steady ∙ c.loop-wire.invariant.2,
  progress_then (Ok None) c.answer_all.new.output c.answer_all.new.wire c.loop-wire.invariant.3 c.in-Ok.ensures.came c.loop-wire.invariant.2
      (rw c.in_default.is at c.in_ok-fault-in-Ok.ensures.answers),
)

pub returns-in-Ok-eq0-clause-converses : goal.returns-in-Ok-eq0-clause-converses
returns-in-Ok-eq0-clause-converses g c =
    let p = c.loop-wire.invariant.3 in
    let ended = c.in-Ok-eq0.ensures.ended c.in-Ok-eq0.field-0-test in (
      p.read,
      Consumes-kept _ _ _ p.read p.consumed ended.1.0,
      advances_as p.steps (λ done rest q. (q.0, (c.is_empty.ensures.value rest (rw ended.1.1 q.1.unread)).0 c.if-is_empty.true, ended.0)),
    )

pub returns-in-Ok-eq0-2-clause-converses : goal.returns-in-Ok-eq0-2-clause-converses
returns-in-Ok-eq0-2-clause-converses g c =
    let p = c.loop-wire.invariant.3 in
    let ended = c.in-Ok-eq0.ensures.ended c.in-Ok-eq0.field-0-test in (
      p.read,
      Consumes-kept _ _ _ p.read p.consumed ended.1.0,
      advances_as p.steps (λ done rest q. (
        q.0,
        λ empty. let yes = (c.is_empty.ensures.value rest (rw ended.1.1 q.1.unread)).1 empty in absurd cc,
        q.1.begins,
        q.1.none,
        ended.0,
      )),
    )
