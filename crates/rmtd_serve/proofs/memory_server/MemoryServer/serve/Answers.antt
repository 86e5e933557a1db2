use Rattle.std.proofs.Common.{subst}
use Rattle.drives.specs.ListLibrary.{library_of}
use Rattle.rmt_server.specs.Stream.{streams, streams_kind}
use Rattle.rmtd_serve.specs.Serving.{IsServedNext}
use Rattle.rmtd_serve.proofs.Resting.{served_at_rest}
use Rattle.rmtd_serve.proofs.memory_server.MemoryServer.serve.Goals as goal

pub invariant_of-self : goal.invariant_of-self
invariant_of-self g c = (served_at_rest g.R.Read.remaining g.W.Write.contents c.self.invariant c.serve.ensures).0

pub returns : goal.returns
returns g c =
    subst (λ b. IsServedNext (streams_kind g.R.Read.remaining g.W.Write.contents) b (library_of c.serve.new.self)
    (streams c.args.input.now c.args.output.now) (streams c.serve.new.input c.serve.new.output) c.serve.result) c.self.view_is
    (served_at_rest g.R.Read.remaining g.W.Write.contents c.self.invariant c.serve.ensures).1
