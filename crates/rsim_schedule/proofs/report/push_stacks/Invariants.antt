use Rattle.rsim_schedule.proofs.Words.{◌≡◌, ◌++◌, map, take, flat_map, plain_line, stack_line}
use Rattle.rsim_schedule.proofs.report.push_stacks.Given as goal

abbrev pub invariant-loop-drive : goal.invariant-loop-drive
invariant-loop-drive l =
    l.text.items ≡ l.fn.text.items ++ flat_map (λ d. stack_line l.world d.name) (map plain_line (take l.drive-index l.drives))
