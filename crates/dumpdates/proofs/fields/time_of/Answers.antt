use Rattle.dumpdates.proofs.Terms.{take_rest}
use Rattle.dumpdates.proofs.Timing.{spelled_is_time, time_spelled}
use Rattle.dumpdates.proofs.fields.time_of.Goals as goal

pub returns-in_err-hour : goal.returns-in_err-hour
returns-in_err-hour c = rw c.from_residual.ensures (λ h m s t. c.in_err-hour.ensures.value h (spelled_is_time c.args.word.now h m s t).hour)

pub returns-in_err-minute : goal.returns-in_err-minute
returns-in_err-minute c =
    rw c.from_residual-in_err-minute.ensures (λ h m s t. c.in_err-minute.ensures.value m (spelled_is_time c.args.word.now h m s t).minute)

pub returns-in_err-second : goal.returns-in_err-second
returns-in_err-second c =
    rw c.from_residual-in_err-second.ensures
    (λ h m s t. c.in_err-second.ensures.value s (rw (take_rest c.args.word.now 6) (spelled_is_time c.args.word.now h m s t).seconds))

pub returns : goal.returns
returns c = time_spelled c.args.word.now _ _ _ (record {
  long = c.if-word-ne8.false;
  first = c.if-word-ne58.false;
  second = c.if-word-ne58-2.false;
  hour = c.in_ok-hour.ensures.value;
  minute = c.in_ok-minute.ensures.value;
  seconds = rw (take_rest c.args.word.now 6) at c.in_ok-second.ensures.value;
})
