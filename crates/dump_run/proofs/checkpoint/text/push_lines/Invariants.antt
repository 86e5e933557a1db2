use Rattle.dump_run.proofs.Words.{◌≡◌, ◌++◌, map, take, count_line, joined, run_lines}
use Rattle.dump_run.proofs.checkpoint.text.push_lines.Given as goal

-- the lines of the run and of the counts so far
abbrev pub invariant-loop-count : goal.invariant-loop-count
invariant-loop-count l =
    l.out.items ≡ l.fn.out.items ++ (joined (run_lines l.run) ++ joined (map count_line (take l.count-index l.counts)))
