-- The answer of a step of a tape.
use Rattle.tape.proofs.Words.{◌≤◌, ℕ, List, length, arith, length-take, PlainEntry, Tape, TapeRequest, TapeAnswer, Passes, TapeStep, CanAnswer}

-- a read gives at most what was asked
passes_bound : (count : ℕ) (left : List PlainEntry) (t u : Tape) (bytes : List ℕ) → Passes count left t bytes u → length bytes ≤ count
passes_bound count left t u bytes passes = grind (arith, length-take {A = ℕ})

-- a step's answer is one that the call can have
pub can_of : (capacity : ℕ) (t u : Tape) (request : TapeRequest) (answer : TapeAnswer) → TapeStep capacity t request answer u → CanAnswer request answer
can_of capacity t u request answer step = grind (arith, passes_bound)
