use Rattle.dump_client.proofs.Attempt.{rules, ◌∙◌, SpellsCheckpoint}
use Rattle.dump_client.proofs.client.Client.resume.Goals as goal

pub returns-in-Ok-clause-resumes : goal.returns-in-Ok-clause-resumes
returns-in-Ok-clause-resumes g c run counts is =
    let bytes = c.args.bytes.now in
    let kept = c.in_ok-checkpoint.checkpoint in
    let spelled : SpellsCheckpoint bytes kept.run kept.counts = search rules in
    let made = c.in-Ok.ensures.resumes in (
      made.0 ∙ c.one_checkpoint.ensures.run bytes kept.run run kept.counts counts spelled is,
      made.1 ∙ c.one_checkpoint.ensures.counts bytes kept.run run kept.counts counts spelled is,
    )
