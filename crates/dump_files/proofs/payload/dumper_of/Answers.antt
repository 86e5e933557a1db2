use Rattle.std.proofs.Common.{subst, sym}
use Rattle.dump_files.specs.Payload.{IsRunsPayload}
use Rattle.dump_files.proofs.Payloads.{runs_payload}
use Rattle.dump_files.proofs.payload.dumper_of.Goals as goal

pub new-requires : goal.new-requires
new-requires g c =
    let same = subst (λ p. IsRunsPayload c.args.run p) (sym c.new-source.ensures) c.requires in
    runs_payload g.M.Medium.holds c.new-source.result c.args.run same
