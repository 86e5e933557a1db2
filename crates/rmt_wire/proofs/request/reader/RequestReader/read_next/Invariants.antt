use Rattle.rmt_wire.proofs.Words.{◌≡◌}
use Rattle.rmt_wire.proofs.Streams.{HasCome}
use Rattle.rmt_wire.proofs.request.reader.RequestReader.read_next.Given as goal

abbrev pub invariant-loop-self : goal.invariant-loop-self
invariant-loop-self g l = record {
  came : HasCome (g.R.Read.remaining l.fn.stream.inner) (g.R.Read.remaining l.stream.inner) l.fn.stream.left l.stream.left l.fn.self l.self;
  steady : l.stream.failures ≡ l.fn.stream.failures;
}

abbrev pub decreases-loop-self : goal.decreases-loop-self
decreases-loop-self g l = l.stream.left
