use Rattle.dump_client.proofs.Attempt.{sym, ◌∙◌, ap, subst, OutcomeFits, after_reply, checkpoint_of}
use Rattle.dump_client.proofs.Going.{reply_at, reply_summary}
use Rattle.dump_client.proofs.ledger.Ledger.reply.Goals as goal

pub apply_outcome-requires : goal.apply_outcome-requires
apply_outcome-requires c =
    let at = c.args.self.now.at in
    let heard = reply_summary c.self.inside.run c.args.summary in
    let led =
    c.after_reply-outcome.ensures heard.0 heard.1 heard.2
    ∙ ap (λ p. after_reply c.self.inside.run heard.0 p.1 c.args.step heard.1) c.checkpoint-first.ensures
    ∙ ap (λ k. after_reply k.at.run heard.0 (checkpoint_of at.counts).1 c.args.step heard.1) c.self.view_is in
    subst (λ o. OutcomeFits at.run at.counts c.args.self.now.room o) (sym led)
    (reply_at at heard.0 c.args.self.now.room c.args.step heard.1 c.requires.lawful c.requires.room c.requires.at)
