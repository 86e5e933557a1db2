use Rattle.rdump_net.proofs.Words.{[], ◌∷◌, refl, append-nil, true, false, Mark, Complete, accepted, stopped, refused, alone, is_fault}
use Rattle.rdump_net.proofs.Marks.{concludes_failed, concluded_kept, taken_and_closed}
use Rattle.remote_tape.proofs.Searching.{on_first}
use Rattle.rdump_net.proofs.volume.conclude_at_mark.Goals as goal

pub returns-in_err-complete : goal.returns-in_err-complete
returns-in_err-complete g c = rw (is_fault c.from_residual.ensures.1) (
  false,
  λ next replies some at found. record {
    later = replies;
    more = [];
    end = Mark ∷ Complete ∷ [];
    logs = alone g.P.Peer.tells c.args.peer.now;
    same = refl;
    took = accepted c.mark.ensures (stopped (rw c.in_err-complete.was at c.complete.ensures));
    ending = refused found some refl;
    ends = λ passed f. (rw append-nil f, (found, on_first next at));
  },
)

pub returns-in_err-take_away : goal.returns-in_err-take_away
returns-in_err-take_away g c =
    rw (is_fault c.from_residual-in_err-take_away.ensures.1) (
      true,
      λ next replies some at found.
          concluded_kept c.mark.new.self some found c.mark.ensures (rw c.in_ok-complete.was at c.complete.ensures) (concludes_failed (c.in_err-take_away.ensures next replies at)),
    )

pub returns : goal.returns
returns g c = (
  true,
  λ next replies some at found.
      concluded_kept c.mark.new.self some found c.mark.ensures (rw c.in_ok-complete.was at c.complete.ensures) (taken_and_closed c.close.result some found (c.in_ok-take_away.ensures next replies at) c.close.ensures),
)
