use Rattle.rdump_net.proofs.Words.{◌≡◌, [], asked, checkpoint_of, failed, failure_lines, none}
use Rattle.dump_client.specs.declared.fault.AttemptFault.TheVariants.{OutOfMemory}
use Rattle.rdump_net.proofs.Printed.{nothing_printed}
use Rattle.rdump_net.proofs.rounds.report_outcome.Goals as goal

pub returns-in-Over-clause-printed : goal.returns-in-Over-clause-printed
returns-in-Over-clause-printed g c = ([], none, nothing_printed g.W.Write.contents c.args.out.now)

pub ask_here-requires-clause-lines : goal.ask_here-requires-clause-lines
ask_here-requires-clause-lines g c =
    let e : c.as_bytes.result.now ≡ failure_lines (checkpoint_of c.args.client.now.at.counts).0 OutOfMemory =
    (let a = c.as_bytes.ensures.value in let b = c.deref.ensures in let d = c.failure_of-lines.ensures in cc) in
    rw e (failed OutOfMemory none)

pub ask_here-requires-in-Held-clause-lines : goal.ask_here-requires-in-Held-clause-lines
ask_here-requires-in-Held-clause-lines g c = rw c.as_bytes-in-Held.ensures.value (asked none)
