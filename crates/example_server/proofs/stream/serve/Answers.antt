use Rattle.std.proofs.Common.{[], refl}
use Rattle.std.proofs.KnownBytes.{Consumes-nil, Appends-nil}
use Rattle.std.proofs.lemmas.Result.{err_from_is_err_and}
use Rattle.example_server.proofs.stream.serve.Goals as goal

-- at first nothing was read and nothing was written
pub loop-request-init : goal.loop-request-init
loop-request-init g c = record {
  answered = record { read = []; requests = []; consumed = Consumes-nil _; given = ([], c.requires, refl); written = Appends-nil _ };
  reads = refl;
  writes = refl;
}

pub returns-in_err-request-clause-served : goal.returns-in_err-request-clause-served
returns-in_err-request-clause-served g c =
    let stop = err_from_is_err_and c.from_residual.result c.from_residual.ensures.1 in
    let next = (rw c.in_err-request.was at c.read_next.follows.holds-at-none) in
    rw (stop.1, stop.2) (next.answers _ _ _ _ c.loop-request.invariant.answered)
