use Rattle.std.proofs.Common.{◌≡◌, ℕ, List, ◌∷◌, Option, Result, Ok, Err, IfSome, MatchResult, true, sym, ◌∙◌}
use Rattle.std.specs.Result.{result_ok}
use Rattle.tape.specs.Tape.PlainEntry.{Record}
use Rattle.volume_check.specs.Volume.{block_records}
use Rattle.volume_check.specs.Hashing.{HoldsEntries}
use Rattle.volume_check.specs.Summing.{AreHashed}
use Rattle.volume_check.specs.declared.entry_hasher.EntryHasher.{EntryHasher}
use Rattle.volume_check.specs.declared.volume_hasher.VolumeHasher.{VolumeHasher}
use Rattle.volume_check.proofs.volume_hasher.VolumeHasher.with_blocks.Goals as goal

-- the hasher holds the label and so many blocks
abbrev Holds : VolumeHasher → ℕ → EntryHasher → Type 0
Holds t count h = (payload : List (List ℕ)) → t.is_known ≡ true → AreHashed t payload → HoldsEntries h (Record t.label ∷ block_records payload t.first count)

-- so a clone of it does
cloned : {E : Type 0} (F : E → Type 0) (t : VolumeHasher) (count : ℕ) (h : EntryHasher) (r : Result EntryHasher E) (o : Option EntryHasher)
    → MatchResult r (λ x. x ≡ h) F → o ≡ result_ok r → Holds t count h → IfSome o (Holds t count)
cloned F t count h (Ok x) o is e holds = rw (e, is) holds
cloned F t count h (Err why) o is e holds = rw e tt

pub returns-then-count-self-2 : goal.returns-then-count-self-2
returns-then-count-self-2 c =
    cloned _ c.args.self.now c.args.count c.args.self.now.but_last _ _ c.clone-then-count-self-2.ensures.cases c.ok-then-count-self-2.ensures.value
    (λ payload known hashed. rw (sym c.if-count-self-2.true ∙ c.from-count.ensures) at ((hashed known).but_last c.if-self-gt0.true))
