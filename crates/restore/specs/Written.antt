-- The bytes that are written of the blocks of volumes. No public contract needs it.
use Rattle.std.specs.Prelude.{◌≡◌, ℕ, ◌-◌, List, [], ◌∷◌, ◌++◌, Option, Result, MatchResult, length, take}
use Rattle.std.specs.Io.KnownBytes.{Appends}
use Rattle.std.specs.List.{concat}
use Rattle.rmt_wire.specs.ReplyWriter.{AppendsBeginning}
use Rattle.restore.specs.Found.{IsFound}
use Rattle.restore.specs.declared.volume.FoundVolume.{FoundVolume}

-- these are the blocks of the volumes, in order
abbrev pub AreTheBlocks : List (List ℕ) → List FoundVolume → List (List ℕ) → Type 0
AreTheBlocks reels [] payload = payload ≡ []
AreTheBlocks reels (f ∷ fs) payload =
    (blocks : List (List ℕ)) × (rest : List (List ℕ)) × (payload ≡ blocks ++ rest) × IsFound reels f blocks × AreTheBlocks reels fs rest

-- The first `left` of these bytes were written, and the result is how many are left after them. After
-- a failure a beginning of them was written.
abbrev pub IsWritten : {E : Type 0} → Option (List ℕ) → Option (List ℕ) → ℕ → List ℕ → Result ℕ E → Type 0
IsWritten old new left bytes result =
    MatchResult result (λ more. Appends old new (take left bytes) × (more ≡ left - length bytes)) (λ _. AppendsBeginning old new (take left bytes))

-- the same for all bytes of these blocks
abbrev pub AreWritten : {E : Type 0} → Option (List ℕ) → Option (List ℕ) → ℕ → List (List ℕ) → Result ℕ E → Type 0
AreWritten old new left blocks result = IsWritten old new left (concat blocks) result
