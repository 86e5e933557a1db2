use Rattle.tape.proofs.Words.{◌++◌, [], length, drop, refl, sym, ◌∙◌, length-take, arith, err_from_is_err_and}
use Rattle.tape.proofs.MediumRuns.{run_call, look_on}
use Rattle.tape.proofs.Before.{nothing_ahead}
use Rattle.tape.proofs.Taking.{gave_call, failed_read, Reads, read_whole, read_enough, mark_passes}
use Rattle.tape.proofs.file_reel.FileReelReel.read.Goals as goal

pub returns-in_err-length-clause-call : goal.returns-in_err-length-clause-call
returns-in_err-length-clause-call g c =
    let p = err_from_is_err_and c.from_residual.result c.from_residual.ensures.1 in
    rw (← c.self.view_is, p.1, p.2) (failed_read _ _ (length c.args.into.now) c.in_err-length.ensures.run refl refl refl)

pub returns-in_default-clause-call : goal.returns-in_default-clause-call
returns-in_default-clause-call g c =
    rw (← c.self.view_is) (gave_call _ _ (length c.args.into.now) [] c.in_ok-length.ensures.run (omega arith) refl
    (λ x t f is. (t, f, rw (nothing_ahead t.after (sym c.in_default.is ∙ is t f)) (refl, refl))))

pub returns-then-length-eq0-clause-call : goal.returns-then-length-eq0-clause-call
returns-then-length-eq0-clause-call g c =
    rw (← c.self.view_is) (gave_call _ _ (length c.args.into.now) [] c.in_ok-length.ensures.run (omega arith) refl
    (λ x t f is. mark_passes x c.self.inside.offset c.in-Some.length (length c.args.into.now) t f (sym c.in-Some.is ∙ is t f) c.if-length-eq0.true))

pub returns-in_err-copied-clause-call : goal.returns-in_err-copied-clause-call
returns-in_err-copied-clause-call g c =
    let p = err_from_is_err_and c.from_residual-in_err-copied.result c.from_residual-in_err-copied.ensures.1 in
    rw (← c.self.view_is, p.1, p.2) (failed_read {tells = λ x. Unit {0}} _ _ (length c.args.into.now)
    (look_on c.in_ok-length.ensures.run (run_call c.in_err-copied.ensures.call) (λ x found read. tt)) refl refl refl)

pub returns-then-copied-count-clause-call : goal.returns-then-copied-count-clause-call
returns-then-copied-count-clause-call g c =
    let run = look_on {R = Reads c.self.inside.offset c.in-Some.length c.in_ok-copied.copied c.read_at.new.into}
    (rw c.in-Some.is at c.in_ok-length.ensures.run)
    (run_call c.in_ok-copied.ensures.call) (λ x found read. (found, read)) in
    rw (← c.self.view_is) (gave_call _ _ (length c.args.into.now) [] run (omega arith) refl
    (λ x t f s. absurd (read_enough x c.self.inside.offset c.in-Some.length c.in_ok-copied.copied c.min-count.result
    (length c.args.into.now) c.read_at.new.into t f s
    c.min-count.ensures (omega (arith, c.read_at.auto.into, length-take c.min-count.result c.args.into.now)) c.if-copied-count.true)))

pub returns-clause-call : goal.returns-clause-call
returns-clause-call g c =
    let run = look_on {R = Reads c.self.inside.offset c.in-Some.length c.in_ok-copied.copied c.read_at.new.into}
    (rw c.in-Some.is at c.in_ok-length.ensures.run)
    (run_call c.in_ok-copied.ensures.call) (λ x found read. (found, read)) in
    rw (← c.self.view_is, c.entry_size.ensures) (gave_call _ _ (length c.args.into.now) _ run
    (omega (arith, length-take c.min-count.result (c.read_at.new.into ++ drop c.min-count.result c.args.into.now))) refl
    (λ x t f s. read_whole x c.self.inside.offset c.in-Some.length c.in_ok-copied.copied c.min-count.result
    (length c.args.into.now) c.read_at.new.into
    (drop c.min-count.result c.args.into.now) t f s
    c.min-count.ensures (omega (arith, c.read_at.auto.into, length-take c.min-count.result c.args.into.now)) c.if-copied-count.false))
