use Rattle.std.proofs.Common.{sym, subst}
use Rattle.world_model.specs.Serving.{IsWholeInBin}
use Rattle.world_model.proofs.Held.{held_after}
use Rattle.world_model.specs.Events.PlainEvent.{Serve}
use Rattle.world_model.proofs.Moves.{carries, carries_turn}
use Rattle.world_model.proofs.RequestMeets.{carries_happens, next_request, stale_requests, whole_at_the_move}
use Rattle.world_model.proofs.laws.one_request.Goals as goal

pub returns : goal.returns
returns c = record {
  carries = carries;
  next_request = λ w u k trouble t d kept has.
      next_request c.one_reading.ensures.answers c.dropped_writes.ensures w (carries_turn w u k trouble t) has.0 d kept.told has.1 has.2;
  stale_requests = λ w u k trouble t kept.
      (stale_requests w u k trouble t kept.held (held_after w (Serve k trouble) u (carries_happens w u k trouble t) kept.held)).0;
  others_stay = λ w u k trouble t kept.
      (stale_requests w u k trouble t kept.held (held_after w (Serve k trouble) u (carries_happens w u k trouble t) kept.held)).1;
  whole_at_the_move = λ w u k trouble t d kept has done. subst (IsWholeInBin w k d) (sym t.is)
      (whole_at_the_move c.one_reading.ensures.answers c.dropped_writes.ensures w (carries_turn w u k trouble t) has.0 d kept has.1 has.2 done);
}
