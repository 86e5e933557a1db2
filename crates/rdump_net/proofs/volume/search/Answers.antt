use Rattle.rdump_net.proofs.Words.{Err, Tape, false, next_end}
use Rattle.rdump_net.proofs.Marks.{concludes_failed, concluded_unasked, concluded_after}
use Rattle.rdump_net.proofs.Reading.{no_reply_so}
use Rattle.rdump_net.proofs.volume.search.Goals as goal

pub returns-in-Ok-Found : goal.returns-in-Ok-Found
returns-in-Ok-Found g c =
    let m = c.conclude_at_mark.ensures in (
      m.0,
      λ next replies some at.
          let a = rw c.in-Ok-Found.field-0-is at (c.in-Ok-Found.ensures (next_end c.args.goes m.0) next replies at) in concluded_after a.3.0 a.1 (m.1 next a.0 some a.3.1 a.3.2),
    )

pub returns-in-Ok-Missing : goal.returns-in-Ok-Missing
returns-in-Ok-Missing g c = (
  false,
  λ next replies some at.
      let a = rw c.in-Ok-Missing.field-0-is at (c.in-Ok-Missing.ensures (next_end c.args.goes false) next replies at) in
      concluded_after a.3.0 a.1 (concluded_unasked c.args.sink.now (c.close_unmarked.ensures c.args.goes next a.0 a.3.1 a.3.2)),
)

pub returns-in-Err : goal.returns-in-Err
returns-in-Err g c = (
  false,
  λ next replies some at.
      let a = c.in-Err.ensures (next_end c.args.goes false) next replies at in
      concluded_unasked c.args.sink.now (concludes_failed (no_reply_so c.in-Err.fault a.3.why a.3.cause a.3.finishes a.1 a.2)),
)

pub returns-in-Ok-Refused : goal.returns-in-Ok-Refused
returns-in-Ok-Refused g c = (
  false,
  λ next replies some at.
      let a = rw c.in-Ok-Refused.field-0-is at (c.in-Ok-Refused.ensures (next_end c.args.goes false) next replies at) in
      concluded_after a.3.0 a.1 (concluded_unasked c.args.sink.now (c.close_unmarked-in-Ok-Refused.ensures c.args.goes next a.0 a.3.1 a.3.2)),
)

pub returns-in-Ok-TooManyRecords : goal.returns-in-Ok-TooManyRecords
returns-in-Ok-TooManyRecords g c = (
  false,
  λ next replies some at.
      let a = rw c.in-Ok-TooManyRecords.field-0-is at (c.in-Ok-TooManyRecords.ensures (next_end c.args.goes false) next replies at) in
      concluded_after a.3.0 a.1 (concluded_unasked c.args.sink.now (c.close_unmarked-in-Ok-TooManyRecords.ensures c.args.goes next a.0 a.3.1 a.3.2)),
)
