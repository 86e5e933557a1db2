use Rattle.dump_run.proofs.Words.{get_or, ◌∙◌, joined, run_lines}
use Rattle.dump_run.proofs.Ordering.{zero_count, listed_there, line_more}
use Rattle.dump_run.proofs.checkpoint.text.push_lines.Goals as goal

pub loop-count-preserved : goal.loop-count-preserved
loop-count-preserved c =
    let counts = c.args.counts.now in
    let i = c.loop-count.count-index in
    let there = c.loop-count-test.true in
    line_more c.args.out.now.items (joined (run_lines c.args.run.now)) c.loop-count.out.items c.extend_from_slice-in-loop-count.new.self.items
    c.as_slice-in-loop-count.result.now counts i (get_or counts i zero_count) there (listed_there counts i there) c.loop-count.invariant
    c.in_ok-extend_from_slice-2.ensures.items (c.as_slice-in-loop-count.ensures ∙ c.count_text.ensures)
