use Rattle.std.proofs.Common.{Ok, refl, arith, ap, ◌∙◌}
use Rattle.rmt_server.proofs.Answering.{advances_none, advances_as, advances_one, answered_none, all_written, cut_in_last, next_none, next_sayable}
use Rattle.rmt_server.proofs.Answering.{is_cut}
use Rattle.rmt_server.proofs.stream.answer_all.Goals as goal

pub loop-fault-init : goal.loop-fault-init
loop-fault-init g c = (c.requires.at, refl, λ bytes u. advances_none bytes (answered_none (g.W.Write.contents c.args.output.now.inner) bytes, u))

pub returns-in-Err-clause-answers : goal.returns-in-Err-clause-answers
returns-in-Err-clause-answers g c = λ bytes u.
    advances_as (c.loop-fault.invariant.2 bytes u) (λ done rest p. (p.0, λ more. let f = c.in-Err.ensures.for_good rest more p.1 in (f.0, f.1)))

pub returns-in-Ok-None-clause-answers : goal.returns-in-Ok-None-clause-answers
returns-in-Ok-None-clause-answers g c = λ bytes u.
    advances_as (c.loop-fault.invariant.2 bytes u)
    (λ done rest p. (p.0, next_none c.next.follows.holds-at-none (c.in-Ok-None.is ∙ ap Ok c.in-Ok-None.field-0-is) rest p.1))

pub write_reply-requires : goal.write_reply-requires
write_reply-requires g c =
    c.carry_out.ensures.spelling (next_sayable c.next.follows.holds-at-none (c.in-Ok-Some.is ∙ ap Ok c.in-Ok-Some.field-0-is)
    (c.loop-fault.invariant.2 c.requires.held.0 c.requires.held.1))

pub loop-fault-preserved : goal.loop-fault-preserved
loop-fault-preserved g c =
    let at_some = c.in-Ok-Some.is ∙ ap Ok c.in-Ok-Some.field-0-is in
    let carried = c.carry_out.follows.holds-at-none in
    let written = c.in_ok-write_reply-in-Ok-Some.ensures in (
      carried.at,
      written.steady ∙ c.loop-fault.invariant.1,
      λ bytes u.
          advances_as (advances_one c.next.follows.holds-at-none at_some (c.loop-fault.invariant.2 bytes u) carried c.carry_out.ensures.spelling)
          (λ done rest o. (all_written o written.written, o.unread)),
    )

pub returns-in_err-write_reply-in-Ok-Some-clause-answers : goal.returns-in_err-write_reply-in-Ok-Some-clause-answers
returns-in_err-write_reply-in-Ok-Some-clause-answers g c = λ bytes u.
    let at_some = c.in-Ok-Some.is ∙ ap Ok c.in-Ok-Some.field-0-is in
    let cut = c.in_err-write_reply-in-Ok-Some.ensures in
    advances_as (advances_one c.next.follows.holds-at-none at_some (c.loop-fault.invariant.2 bytes u)
    c.carry_out.follows.holds-at-none c.carry_out.ensures.spelling)
    (λ done rest o. is_cut g.W.Write.contents c.from_residual.result _ _ _ bytes done rest c.from_residual.ensures.0
    (cut_in_last o cut.beginning.0 cut.beginning.1) (omega (arith, c.loop-fault.invariant.1, cut.fault)))
