-- The results of the functions that read a checkpoint. A count is the record of a volume that was
-- written whole: its number, its first block and its number of blocks. No public contract needs it.
use Rattle.std.specs.Prelude.{◌≡◌, ◌≢◌, ◌⊎◌, ℕ, ◌<◌, ◌≤◌, ◌+◌, take, List, ◌∷◌, ◌++◌, map, All, codes, length, get_or, decimal, Option, Some, None, Result, Ok, Err, Vec}
use Rattle.std.specs.Global.{Global}
use Rattle.std.specs.Int.{IsInRange}
use Rattle.std.specs.Borrow.{Bor}
use Rattle.rmt_wire.specs.Number.{line_feed}
use Rattle.dump_run.specs.Run.{PlainRun, IsRun}
use Rattle.dump_run.specs.Counts.{AreVolumes}
use Rattle.dump_run.specs.Checkpoint.{AreNumbers, count_text, count_line, HasBadLine, LacksLine, IsLineOf, joined, run_lines}
use Rattle.dump_run.specs.Checkpoint.Kind.{Title, Counted}
use Rattle.dump_run.specs.declared.fault.ResumeFault.{ResumeFault}
use Rattle.dump_run.specs.declared.fault.ResumeFault.TheVariants.{BadLine, NotInOrder, OutOfMemory}
use Rattle.dump_run.specs.declared.count.VolumeCount.{VolumeCount}

-- the text does not contain the byte
abbrev pub Lacks : ℕ → List ℕ → Type 0
Lacks byte text = (i : ℕ) → i < length text → get_or text i 0 ≢ byte

-- the text contains no line feed
abbrev pub NoFeed : List ℕ → Type 0
NoFeed text = Lacks line_feed text

-- the text before the first such byte and after it, or none if there is no such byte
abbrev pub IsCut : ℕ → List ℕ → Option (Bor (List ℕ) × Bor (List ℕ)) → Type 0
IsCut byte text None = Lacks byte text
IsCut byte text (Some p) = Lacks byte p.0.now × (text ≡ p.0.now ++ byte ∷ p.1.now)

-- the number in this range that the text spells without leading zeros, or none if it spells no such
-- number
abbrev pub IsNumber : ℕ → ℕ → List ℕ → Option ℕ → Type 0
IsNumber least most text None = (n : ℕ) → IsInRange least most n → text ≢ decimal n
IsNumber least most text (Some n) = IsInRange least most n × (text ≡ decimal n)

-- the bytes begin with a line of this keyword and a text of this kind, or with no such line
abbrev pub FindsText : List ℕ → (List ℕ → Type 0) → List ℕ → Option (Bor (List ℕ) × Bor (List ℕ)) → Type 0
FindsText word kind bytes None = (text more : List ℕ) → kind text → bytes ≢ (word ++ text) ++ line_feed ∷ more
FindsText word kind bytes (Some p) = kind p.0.now × (bytes ≡ (word ++ p.0.now) ++ line_feed ∷ p.1.now)

-- the bytes begin with a line of this keyword and a number in this range, or with no such line
abbrev pub FindsNumber : List ℕ → ℕ → ℕ → List ℕ → Option (ℕ × Bor (List ℕ)) → Type 0
FindsNumber word least most bytes None =
    (n : ℕ) (more : List ℕ) → IsInRange least most n → bytes ≢ (word ++ decimal n) ++ line_feed ∷ more
FindsNumber word least most bytes (Some p) = IsInRange least most p.0 × (bytes ≡ (word ++ decimal p.0) ++ line_feed ∷ p.1.now)

-- the text is the numbers of a count, or of none
abbrev pub IsCountText : List ℕ → Option VolumeCount → Type 0
IsCountText text None = (c : VolumeCount) → AreNumbers c → text ≢ count_text c
IsCountText text (Some c) = AreNumbers c × (text ≡ count_text c)

-- the bytes begin with the line of a count, or with no such line
abbrev pub FindsCount : List ℕ → Option (VolumeCount × Bor (List ℕ)) → Type 0
FindsCount bytes None = (c : VolumeCount) (more : List ℕ) → AreNumbers c → bytes ≢ count_line c ++ line_feed ∷ more
FindsCount bytes (Some p) = AreNumbers p.0 × (bytes ≡ count_line p.0 ++ line_feed ∷ p.1.now)

-- the bytes after the first line, if that is the title; or none
abbrev pub FindsTitle : List ℕ → Option (Bor (List ℕ)) → Type 0
FindsTitle bytes None = (line more : List ℕ) → IsLineOf Title line → bytes ≢ line ++ line_feed ∷ more
FindsTitle bytes (Some rest) = bytes ≡ (codes "rdump 1") ++ line_feed ∷ rest.now

-- the bytes begin with the lines of a run, or this line is the first that is bad
abbrev pub IsHead : List ℕ → Result (PlainRun × Bor (List ℕ)) ResumeFault → Type 0
IsHead bytes (Ok p) = IsRun p.0 × (bytes ≡ joined (run_lines p.0) ++ p.1.now)
IsHead bytes (Err (BadLine n)) = HasBadLine bytes n
IsHead bytes (Err (NotInOrder n)) = ⊥
IsHead bytes (Err OutOfMemory) = ⊥

-- line `n` of the checkpoint is the first count that is bad; the lines before it are counts
pub record HasBadCount (bytes : List ℕ) (n : ℕ) : Type 0 where
  pub counts : List VolumeCount
  pub rest : List ℕ
  pub good : All AreNumbers counts
  pub split : bytes ≡ joined (map count_line counts) ++ rest
  pub bad : LacksLine Counted rest
  pub number : n ≡ length counts + 9

-- the bytes are the lines of these counts, or this line is the first that is bad, or memory was
-- exhausted
abbrev pub AreCounts : List ℕ → Result (Vec VolumeCount Global) ResumeFault → Type 0
AreCounts bytes (Ok v) = All AreNumbers v.items × (bytes ≡ joined (map count_line v.items))
AreCounts bytes (Err (BadLine n)) = HasBadCount bytes n
AreCounts bytes (Err (NotInOrder n)) = ⊥
AreCounts bytes (Err OutOfMemory) = Unit {0}

-- the count is volume `volume` from block `first` on; it is the first volume, or blocks are left
-- for it
abbrev pub IsNext : ℕ → ℕ → ℕ → VolumeCount → Type 0
IsNext blocks volume first c =
    (c.volume ≡ volume) × (c.first ≡ first) × (first + c.count ≤ blocks) × ((0 < c.count) ⊎ (blocks ≡ 0))
    × ((volume ≡ 1) ⊎ (first < blocks))

-- the first `n` counts are volumes of the run in order; the first `n + 1`, if there are so many,
-- are not
abbrev pub AreOrdered : PlainRun → List VolumeCount → ℕ → Type 0
AreOrdered run counts n =
    (n ≤ length counts) × AreVolumes run 1 0 (take n counts) × (n < length counts → AreVolumes run 1 0 (take (n + 1) counts) → ⊥)
