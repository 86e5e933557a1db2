use Rattle.rdump_net.proofs.Words.{[], ◌++◌, take, arith, ends, hears, unanswered}
use Rattle.rdump_net.proofs.Observed.{observes_none}
use Rattle.rdump_net.proofs.Talking.{one_call, kept_source}
use Rattle.remote_tape.proofs.Given.{none_given, some_given}
use Rattle.rdump_net.proofs.attempt.hear.Goals as goal

pub returns-then-count-eq-NO_BYTES : goal.returns-then-count-eq-NO_BYTES
returns-then-count-eq-NO_BYTES g c =
    let h = c.ended.ensures in
    let same = c.receive-count.auto.into in
    let told = rw (none_given c.receive-count.new.into c.receive-count.result (omega (arith, same)) c.if-count-eq-NO_BYTES.true) at c.receive-count.ensures.told in
    record { talks = one_call (kept_source g.B.Blocks.holds h.same_source) told (λ old fed. ([], ends c.ended.result h.moved, h.fed)); observed = observes_none }

pub returns-in_default : goal.returns-in_default
returns-in_default g c =
    let h = c.feed_finding_label-progress.ensures in
    let piece = take c.receive-count.result c.receive-count.new.into in
    let told = rw (some_given c.receive-count.new.into c.receive-count.result c.receive-count.ensures.within c.if-count-eq-NO_BYTES.false) at c.receive-count.ensures.told in
    record {
      talks = one_call (kept_source g.B.Blocks.holds h.same_source) told (λ old fed. (unanswered c.feed_finding_label-progress.new.self.at.stage (old ++ piece), hears piece _ (h.moved old fed), h.fed old fed));
      observed = observes_none;
    }

pub returns-in-Some : goal.returns-in-Some
returns-in-Some g c =
    let h = c.feed_finding_label-progress.ensures in
    let piece = take c.receive-count.result c.receive-count.new.into in
    let told = rw (some_given c.receive-count.new.into c.receive-count.result c.receive-count.ensures.within c.if-count-eq-NO_BYTES.false) at c.receive-count.ensures.told in
    record {
      talks = one_call (kept_source g.B.Blocks.holds h.same_source) told (λ old fed. (unanswered c.feed_finding_label-progress.new.self.at.stage (old ++ piece), hears piece _ (h.moved old fed), h.fed old fed));
      observed = record { logged = c.overwrites.ensures.logs; quiet = c.overwrites.ensures.quiet };
    }
