-- What stands after a write, as the entries of a reel that is opened again.
use Rattle.tape.proofs.Words.{ℕ, arith, List, [], ◌∷◌, append-nil, PlainEntry, Tape, TapeAnswer, MarksStep, WriteStep, entries_of, Record, StandsAfterMarks, StandsAfterWrite}

pub write_stood : (capacity : ℕ) (bytes : List ℕ) (t u : Tape) (answer : TapeAnswer) → WriteStep capacity bytes t answer u
    → StandsAfterWrite t (Record bytes ∷ []) answer (entries_of u)
write_stood capacity bytes t u answer step = grind (arith, append-nil {A = PlainEntry})

pub marks_stood : (capacity count : ℕ) (t u : Tape) (answer : TapeAnswer) → MarksStep capacity count t answer u → StandsAfterMarks t count answer (entries_of u)
marks_stood capacity count t u answer step = grind (arith, append-nil {A = PlainEntry})
