use Rattle.std.proofs.Common.{◌≡◌}
use Rattle.rmt_wire.specs.RequestStream.{HasAnswered, most_left}
use Rattle.example_server.specs.Serving.{answer_text}
use Rattle.example_server.proofs.stream.serve.Given as goal

abbrev pub invariant-loop-request : goal.invariant-loop-request
invariant-loop-request g l = record {
  answered : HasAnswered answer_text (g.R.Read.remaining l.fn.input.inner) (g.R.Read.remaining l.input.inner) l.requests
      (g.W.Write.contents l.fn.output.inner) (g.W.Write.contents l.output.inner);
  reads : l.input.failures ≡ l.fn.input.failures;
  writes : l.output.failures ≡ l.fn.output.failures;
}

abbrev pub decreases-loop-request : goal.decreases-loop-request
decreases-loop-request g l = most_left l.input.left l.requests
