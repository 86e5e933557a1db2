use Rattle.std.proofs.Common.{rules}
use Rattle.hold_table.proofs.hand.TableHandHolds.TheImpl.Goals as goal

pub take-tells : goal.take-tells
take-tells g x c =
    record {
      step = search rules;
      answer = search rules;
      known = search rules;
      found = λ n t. absurd t;
      told = λ d n t. t;
      own = search rules;
      others = λ s n k. search rules;
      same_drives = search rules;
      same_seats = search rules;
    }

pub give-tells : goal.give-tells
give-tells g x c =
    record { step = search rules; told = λ d n t. t; own = search rules; others = λ s n k. search rules; same_drives = search rules; same_seats = search rules }

pub holder-tells : goal.holder-tells
holder-tells g x c =
    record { step = search rules; known = search rules; mine = search rules; found = λ n t. absurd t; own = search rules }
