use Rattle.rsim_schedule.proofs.Words.{◌≤◌, ℕ, List, ◌++◌, true, false, inl, inr, Option, Err, refl, Counting, printed_both, Halt, StreamFailed}
use Rattle.console.specs.declared.status.ExitStatus.{ExitStatus}
use Rattle.rsim_schedule.specs.Ending.{IsScheduleRun, IsHaltPrinted, IsScheduled, halt_line}
use Rattle.rsim_schedule.proofs.running.schedule.Goals as goal

module _ {W : Type 0} (contents : W → Option (List ℕ)) where
  -- a schedule that ends early
  not_all_run : (n : ℕ) (halt : Halt) (a b c : Counting W) (status : ExitStatus) → 1 ≤ n → IsScheduleRun contents a (Err halt) b
      → IsHaltPrinted contents n halt b status c → IsScheduled contents a status c
  not_all_run n StreamFailed a b c status first run line =
      rw line.0 (inr (inr (run.0, elim run.1 [ inl play ↦ inl play | inr report ↦ inr (inl report) ], run.2, line.1)))
  not_all_run n halt a b c status first (text, play, printed) (true, line, e) =
      let whole = printed_both contents text (halt_line n halt) a b c true printed line in
      inr (inl (text ++ halt_line n halt, n, halt, first, (λ same. cc), record { played = text; play = play; is = refl }, whole, e))
  not_all_run n halt a b c status first (text, play, printed) (false, line, e) =
      let part = printed_both contents text (halt_line n halt) a b c false printed line in
      inr (inr (text ++ halt_line n halt, inr (inr (n, halt, record { played = text; play = play; is = refl })), part, e))

pub returns-in-Err : goal.returns-in-Err
returns-in-Err g c =
    not_all_run g.W.Write.contents c.run_all.new.lines.number c.in-Err.halt c.args.out.now c.run_all.new.out c.print_halt.new.out c.print_halt.result
    c.run_all.new.lines.counted c.in-Err.ensures c.print_halt.ensures
