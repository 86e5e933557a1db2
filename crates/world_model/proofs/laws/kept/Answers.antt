use Rattle.world_model.proofs.Staying.{Laws, first_kept, kept_after, runs_kept, kept_names, headline, no_two_holders, reels_counted, dumpdates_gained, sent_requests, latched_reels, clients_counts}
use Rattle.world_model.proofs.Counted.{sums_of, labelled_reels, reels_not_reopened}
use Rattle.world_model.proofs.Lawfully.{counts_grow}
use Rattle.world_model.proofs.Steppable.{steps}
use Rattle.world_model.proofs.Talked.{requests, talks}
use Rattle.world_model.proofs.NotReopenedAlone.{unopened, unwritten, own_opens}
use Rattle.world_model.proofs.Restores.{dumps_come_back, restoring}
use Rattle.world_model.specs.First.{first_world}
use Rattle.world_model.proofs.laws.kept.Goals as goal

pub returns : goal.returns
returns c =
    let g : Laws = record {
      goings = (c.same_run.ensures.fed, c.same_run.ensures.cut);
      lawfully = (c.same_run.ensures.fed_lawful, c.same_run.ensures.cut_lawful, c.same_run.ensures.over_lawful);
      standings = (c.same_run.ensures.fed_stands, c.same_run.ensures.cut_stands);
      reading = c.one_reading.ensures.answers;
      dropped = c.dropped_writes.ensures;
      reply = c.one_reply.ensures;
    } in
    record {
      first = first_kept;
      after = kept_after g;
      runs = λ drives events w good run. runs_kept g (first_world drives) w events (first_kept drives good) run;
      reached = λ w (drives, events, good, run). runs_kept g (first_world drives) w events (first_kept drives good) run;
      steps = steps c.one_reply_reading.ensures.some_answer c.dropped_writes.ensures;
      names = kept_names;
      headline = headline;
      holders = λ w kept. kept.held;
      no_two_holders = no_two_holders;
      labelled_reels = labelled_reels;
      reels_not_reopened = reels_not_reopened;
      unopened = unopened;
      unwritten = unwritten;
      own_opens = own_opens;
      counted_reels = reels_counted;
      counted_sums = λ w kept. sums_of w (reels_counted w kept);
      dumpdates_gained = dumpdates_gained;
      dumps_come_back = dumps_come_back (restoring c.what_was_dumped_comes_back.ensures.from_reels c.what_was_dumped_comes_back.ensures.from_catalog);
      sent_requests = sent_requests;
      requests = λ drives events w k sent carried good told. requests g k drives w events sent carried good told;
      talks = λ first w events k run. talks k first w events run;
      latched_reels = latched_reels;
      clients_counts = clients_counts;
      counts_grow = counts_grow g.goings;
    }
