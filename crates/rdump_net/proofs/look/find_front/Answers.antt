use Rattle.rdump_net.proofs.Words.{Err, refl, Closing, Goes, Reading, Rewinding, RewindingAgain, is_fault}
use Rattle.refusals.specs.declared.request.TapeRequest.TheVariants as asked
use Rattle.rdump_net.proofs.Looking.{done_part, empty_read, failed_part, goes_both, kept_part, part_after}
use Rattle.rdump_net.proofs.Reading.{none_there, some_there}
use Rattle.rdump_net.proofs.look.find_front.Goals as goal

pub returns-in_err-rewind : goal.returns-in_err-rewind
returns-in_err-rewind g c = λ device.
    rw (is_fault c.from_residual.ensures.1) (failed_part g.P.Peer.tells device _ _ Rewinding Closing asked.Rewind c.in_err-rewind.field-0.0 refl (λ n text. refl) c.in_err-rewind.ensures)

pub returns-in_err-first : goal.returns-in_err-first
returns-in_err-first g c = λ device.
    rw (is_fault c.from_residual-in_err-first.ensures.1) (part_after _ Closing (Err c.in_err-first.field-0.0) (done_part asked.Rewind Rewinding refl c.in_ok-rewind.ensures)
    (failed_part g.P.Peer.tells device _ _ Reading Closing asked.Read c.in_err-first.field-0.0 refl (λ n text. refl) c.in_err-first.ensures))

pub returns-then-is_empty : goal.returns-then-is_empty
returns-then-is_empty g c = λ device.
    let none : Goes g.P.Peer.tells device Reading RewindingAgain _ _ =
    empty_read g.P.Peer.tells device _ _ c.in_ok-first.first.now (none_there c.in_ok-first.first.now c.is_empty.ensures c.if-is_empty.true) c.in_ok-first.ensures in
    part_after _ Closing c.find_mark.result (goes_both (done_part asked.Rewind Rewinding refl c.in_ok-rewind.ensures) none) (c.find_mark.ensures device)

pub returns : goal.returns
returns g c = λ device.
    part_after _ Closing c.keep_record.result (done_part asked.Rewind Rewinding refl c.in_ok-rewind.ensures)
    (kept_part g.P.Peer.tells device _ _ c.in_ok-first.first.now c.keep_record.result (some_there c.in_ok-first.first.now c.is_empty.ensures c.if-is_empty.false) c.keep_record.ensures c.in_ok-first.ensures)
