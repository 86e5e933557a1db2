use Rattle.std.proofs.Common.{subst, sym}
use Rattle.dump_run.specs.Run.{AreOfOneDump}
use Rattle.dump_files.specs.Payload.{IsRunsPayload}
use Rattle.dump_files.proofs.Payloads.{of_one_dump, runs_payload}
use Rattle.dump_files.proofs.resumed_dump.resume_dump.Goals as goal

pub from_checkpoint-requires : goal.from_checkpoint-requires
from_checkpoint-requires g c =
    let same = subst (λ kept. AreOfOneDump kept c.args.run.now) c.run.ensures (c.is_same_dump.ensures.0 c.if-not-is_same_dump.false) in
    let of_one = of_one_dump c.args.payload c.args.run.now c.args.checkpoint.run c.requires same in
    let its = subst (λ p. IsRunsPayload c.args.checkpoint.run p) (sym c.new-source.ensures) of_one in
    runs_payload g.M.Medium.holds c.new-source.result c.args.checkpoint.run its
