-- What a sink is given of a volume that is read, and whether it accepts that. `s` and `s'` are the
-- sink before and after, and `takes` relates a sink before and after a call to the call and to
-- whether the sink accepted it. Public contracts cite it.
use Rattle.std.specs.Prelude.{ℕ, ◌+◌, Bool, true, false, List, [], ◌∷◌, Result, Ok, Err}
use Rattle.rdump_net.specs.declared.sink.SinkStopped.{SinkStopped}
use Rattle.rdump_net.specs.declared.sink.Verdict.{Verdict}
use Rattle.rdump_net.specs.declared.sink.Verdict.TheVariants.{GoOn, Stop}

-- What a sink is given: the first record, a record after it with its number from 0, the mark that
-- ends the records, and the question whether all is kept.
pub data SinkCall : Type 0 where
  Label : (bytes : List ℕ) → SinkCall
  Block : (number : ℕ) → (bytes : List ℕ) → SinkCall
  Mark : SinkCall
  Complete : SinkCall

-- whether the sink accepted the first record
abbrev pub goes_on : Verdict → Bool
goes_on GoOn = true
goes_on Stop = false

-- whether the sink accepted a block, or has completed
abbrev pub has_accepted : Result Unit SinkStopped → Bool
has_accepted (Ok x) = true
has_accepted (Err fault) = false

-- The sink was given these calls, in order. If `whole` is true, it accepted each of them. If not,
-- it accepted all but the last, and was given nothing more.
pub data Takes {S : Type 0} (takes : S → S → SinkCall → Bool → Type 0) : S → S → List SinkCall → Bool → Type 0 where
  nothing : {s : S} → Takes takes s s [] true
  accepted : {s t u : S} {call : SinkCall} {calls : List SinkCall} {whole : Bool} → takes s t call true → Takes takes t u calls whole
      → Takes takes s u (call ∷ calls) whole
  stopped : {s t : S} {call : SinkCall} → takes s t call false → Takes takes s t (call ∷ []) false

-- the records after the first, from number `n` on, up to the first that is empty
abbrev pub blocks_from : ℕ → List (List ℕ) → List SinkCall
blocks_from n [] = []
blocks_from n ([] ∷ records) = []
blocks_from n ((b ∷ bytes) ∷ records) = Block n (b ∷ bytes) ∷ blocks_from (n + 1) records

-- what a sink is given of these records; a read that returns no bytes adds an empty record, which
-- ends them
abbrev pub calls_of : List (List ℕ) → List SinkCall
calls_of [] = []
calls_of ([] ∷ records) = []
calls_of ((b ∷ bytes) ∷ records) = Label (b ∷ bytes) ∷ blocks_from 0 records
