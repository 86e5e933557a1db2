use Rattle.rsim_schedule.proofs.Words.{true, map, subst, ◌∙◌, err_from_is_err_and, plain_line, IsPlayed, ◌≡◌, ℕ, List, ◌++◌, false, inl, inr, Option, Result, Ok, Err, IfErr, ap, Counting, printed_both, World, PlainDriveSpec, AreGoodDrives, first_world, is_whole, report_text, Halt, StreamFailed}
use Rattle.rmt_wire.specs.Print.{IsPrinted}
use Rattle.rsim_schedule.specs.Ending.{IsScheduleRun}
use Rattle.rsim_schedule.proofs.running.play_and_report.Goals as goal

module _ {W : Type 0} (contents : W → Option (List ℕ)) where
  -- a line was not run, or a write failed on the way
  halted_later : (drives : List PlainDriveSpec) (w : World) (halt : Halt) (out out' : Counting W) → AreGoodDrives drives
      → IsPlayed contents (first_world drives) out (is_whole {T = Unit} (Err halt)) w out' → IsScheduleRun contents out (Err halt) out'
  halted_later drives w StreamFailed out out' good p = (p.0, inl (inr (w, record { drives = drives; good = good; plays = p.1 })), p.2)
  halted_later drives w halt out out' good p = (p.0, inr (w, record { drives = drives; good = good; plays = p.1 }), p.2)

  -- the report was printed, or a write failed on the way
  reported : (drives : List PlainDriveSpec) (w : World) (result : Result Unit Halt) (report : List ℕ) (a b c : Counting W) → AreGoodDrives drives
      → IsPlayed contents (first_world drives) a true w b → report ≡ report_text drives w → IfErr result (λ halt. halt ≡ StreamFailed)
      → IsPrinted contents report b c (is_whole result) → IsScheduleRun contents a result c
  reported drives w (Ok x) report a b c good p is only printed = (
    p.0 ++ report,
    record { drives = drives; world = w; played = p.0; good = good; plays = p.1; is = ap (λ r. p.0 ++ r) is },
    printed_both contents p.0 report a b c true p.2 printed,
  )
  reported drives w (Err StreamFailed) report a b c good p is only printed = (
    p.0 ++ report,
    inr (record { drives = drives; world = w; played = p.0; good = good; plays = p.1; is = ap (λ r. p.0 ++ r) is }),
    printed_both contents p.0 report a b c false p.2 printed,
  )
  reported drives w (Err halt) report a b c good p is only printed = absurd cc

pub returns-in_err-play_all : goal.returns-in_err-play_all
returns-in_err-play_all g c =
    let told = err_from_is_err_and c.from_residual.result c.from_residual.ensures.1 in
    rw (told.1, told.2) (halted_later g.W.Write.contents (map plain_line c.args.drives.now) c.play_all.new.world c.in_err-play_all.field-0.0
    c.args.out.now c.play_all.new.out c.requires.0 (rw (c.requires.1, c.in_err-play_all.was) at c.play_all.ensures))

pub returns : goal.returns
returns g c =
    reported g.W.Write.contents (map plain_line c.args.drives.now) c.play_all.new.world c.print_all.result c.deref.result.now
    c.args.out.now c.play_all.new.out c.print_all.new.out c.requires.0
    (subst (λ w. IsPlayed g.W.Write.contents w c.args.out.now true c.play_all.new.world c.play_all.new.out) c.requires.1 c.in_ok-play_all.ensures)
    (c.deref.ensures.value ∙ c.in_ok-report.ensures) c.print_all.ensures.only c.print_all.ensures.printed
