use Rattle.rmt_wire.proofs.Words.{sym, ◌∙◌}
use Rattle.rmt_wire.proofs.Nexts.{seen_from}
use Rattle.rmt_wire.proofs.Streams.{no_wait, no_wait_unless_none}
use Rattle.rmt_wire.proofs.request.reader.RequestReader.is_waiting.Goals.{in-Ok, in-Err}
use Rattle.rmt_wire.proofs.request.reader.RequestReader.is_waiting.Goals as goal

pub returns-clause-enough : goal.returns-clause-enough
returns-clause-enough c = λ f bytes u w.
    let seen = seen_from _ _ c.as_slice.ensures in
    elim c.match-first_request.branch [
      | in-Ok b ↦ no_wait_unless_none _ _ b.in-Ok.found b.is_none.result bytes (rw (b.in-Ok.is, seen) at c.first_request.ensures.next) b.is_none.ensures
          (sym b.result-is ∙ f) (rw b.self-inside-is at u) w.1
      | in-Err b ↦ no_wait _ _ b.in-Err.field-0 bytes (rw (b.in-Err.is, seen) at c.first_request.ensures.next) (rw b.self-inside-is at u) w.0
    ]
