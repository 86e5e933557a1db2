use Rattle.dump_client.proofs.Attempt.{refl, SpellsCheckpoint, checkpoint_text}
use Rattle.dump_client.proofs.laws.resumes.Goals as goal

pub returns-clause-alone : goal.returns-clause-alone
returns-clause-alone c at run counts lawful is =
    let text = checkpoint_text at.run at.counts in
    let own : SpellsCheckpoint text at.run at.counts = record { text = refl; limits = lawful.run; in_order = lawful.counts } in
    (c.one_checkpoint.ensures.run text run at.run counts at.counts is own, c.one_checkpoint.ensures.counts text run at.run counts at.counts is own)
