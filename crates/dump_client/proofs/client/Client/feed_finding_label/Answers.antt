use Rattle.dump_client.proofs.Attempt.{arith, ◌++◌, refl, Some, None, Ok, Err, common_steps, wanted_of, unanswered}
use Rattle.dump_client.proofs.Feeding.{fed_made, waiting_at, heard_finds}
use Rattle.dump_client.proofs.client.Client.feed_finding_label.Goals as goal

pub invariant_of-self-in-Waits : goal.invariant_of-self-in-Waits
invariant_of-self-in-Waits g c =
    let fed = c.self.invariant.1 in
    (c.self.invariant.0, (fed.0 ++ c.args.piece.now, grind (arith, common_steps, fed.1)))

pub invariant_of-self-in-Reply : goal.invariant_of-self-in-Reply
invariant_of-self-in-Reply g c =
    let fed = c.self.invariant.1 in
    let waits = waiting_at _ c.in-Waiting.step _ fed.0 c.in-Waiting.ensures.value fed.1 in
    let l = c.in-Reply.ensures.feed_result (wanted_of c.in-Waiting.step) fed.0 waits in
    (rw c.reply-progress.ensures.same_run c.self.invariant.0, (unanswered c.reply-progress.new.self.at.stage fed.0, c.reply-progress.ensures.fed c.listen.new.reader fed.0 l.5))

pub returns-in-Waits-clause-moved : goal.returns-in-Waits-clause-moved
returns-in-Waits-clause-moved g c =
    rw (← c.self.view_is) (λ bytes k.
    let l = c.in-Waits.ensures.feed_result (wanted_of c.in-Waiting.step) bytes (waiting_at _ c.in-Waiting.step _ bytes c.in-Waiting.ensures.value k) in
    fed_made _ _ c.in-Waiting.step bytes _ _ (Ok None) _ c.in-Waiting.ensures.value l.begun (refl, refl))

pub returns-in-Reply-clause-moved : goal.returns-in-Reply-clause-moved
returns-in-Reply-clause-moved g c =
    rw (← c.self.view_is) (λ bytes k.
    let l = c.in-Reply.ensures.feed_result (wanted_of c.in-Waiting.step) bytes (waiting_at _ c.in-Waiting.step _ bytes c.in-Waiting.ensures.value k) in
    let heard = c.reply-progress.ensures.heard l.0 (rw (c.run-run.ensures, c.counted-counts.ensures) at l.3.0) in
    fed_made _ _ c.in-Waiting.step bytes _ l.1 (Ok (Some l.0)) _ c.in-Waiting.ensures.value l.2 (rw l.4 at heard))

pub returns-in-Noise-clause-moved : goal.returns-in-Noise-clause-moved
returns-in-Noise-clause-moved g c =
    rw (← c.self.view_is) (λ bytes k.
    let l = c.in-Noise.ensures.feed_result (wanted_of c.in-Waiting.step) bytes (waiting_at _ c.in-Waiting.step _ bytes c.in-Waiting.ensures.value k) in
    fed_made _ _ c.in-Waiting.step bytes _ _ (Err l.0) _ c.in-Waiting.ensures.value l.1 c.noise-in-Noise.ensures.heard)

pub returns-in-Reply-clause-found : goal.returns-in-Reply-clause-found
returns-in-Reply-clause-found g c =
    rw (← c.self.view_is, c.found_label.ensures) (λ bytes k.
    let l = c.in-Reply.ensures.feed_result (wanted_of c.in-Waiting.step) bytes (waiting_at _ c.in-Waiting.step _ bytes c.in-Waiting.ensures.value k) in
    let heard = c.reply-progress.ensures.heard l.0 (rw (c.run-run.ensures, c.counted-counts.ensures) at l.3.0) in
    heard_finds c.self.inside.ledger.at c.reply-progress.new.self.at c.in-Waiting.step _ l.1 l.0 _ _ _ c.in-Waiting.ensures.value l.2 l.3.1 l.4 heard)

pub returns-in-Reply-clause-fed : goal.returns-in-Reply-clause-fed
returns-in-Reply-clause-fed g c =
    rw (← c.self.view_is) (λ bytes k.
    let l = c.in-Reply.ensures.feed_result (wanted_of c.in-Waiting.step) bytes (waiting_at _ c.in-Waiting.step _ bytes c.in-Waiting.ensures.value k) in
    c.reply-progress.ensures.fed c.listen.new.reader (bytes ++ c.args.piece.now) l.5)
