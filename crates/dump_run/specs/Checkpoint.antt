-- The text of a checkpoint file: the lines of the run, then a line for each counted volume. The
-- format is this project's own. A count is the record of a volume that was written whole: its
-- number, its first block and its number of blocks. Public contracts cite it.
use Rattle.std.specs.Prelude.{◌≡◌, ◌≢◌, ℕ, ◌+◌, ◌≤◌, List, [], ◌∷◌, ◌++◌, All, codes, length, map, flat_map, decimal}
use Rattle.std.specs.Int.{IsInRange}
use Rattle.rmt_wire.specs.Number.{line_feed, space}
use Rattle.rmt_wire.specs.declared.limits.TheConstants.{RECORD_LIMIT}
use Rattle.dumpdates.specs.Entry.{IsName, last_second}
use Rattle.dump_run.specs.Run.{PlainRun, IsRun, IsDevice, blocks_limit}
use Rattle.dump_run.specs.Counts.{AreVolumes}
use Rattle.dump_run.specs.declared.count.VolumeCount.{VolumeCount}
use Rattle.dump_run.specs.declared.fault.ResumeFault.{ResumeFault}
use Rattle.dump_run.specs.declared.fault.ResumeFault.TheVariants.{BadLine, NotInOrder, OutOfMemory}

-- the lines of a run
abbrev pub run_lines : PlainRun → List (List ℕ)
run_lines r =
    codes "rdump 1" ∷ (codes "device " ++ r.device) ∷ (codes "fs " ++ r.name) ∷ (codes "level " ++ decimal r.level)
    ∷ (codes "date " ++ decimal r.date) ∷ (codes "since " ++ decimal r.since) ∷ (codes "block " ++ decimal r.block_bytes)
    ∷ (codes "blocks " ++ decimal r.blocks) ∷ []

-- the numbers of a counted volume, as a text
abbrev pub count_text : VolumeCount → List ℕ
count_text c = decimal c.volume ++ space ∷ (decimal c.first ++ space ∷ decimal c.count)

-- the line of a counted volume
abbrev pub count_line : VolumeCount → List ℕ
count_line c = codes "counted " ++ count_text c

-- the lines of a run and its counted volumes
abbrev pub checkpoint_lines : PlainRun → List VolumeCount → List (List ℕ)
checkpoint_lines run counts = run_lines run ++ map count_line counts

-- the lines, each with a line feed at its end
abbrev pub joined : List (List ℕ) → List ℕ
joined lines = flat_map (λ line. line ++ line_feed ∷ []) lines

-- the text of a run and its counted volumes
abbrev pub checkpoint_text : PlainRun → List VolumeCount → List ℕ
checkpoint_text run counts = joined (checkpoint_lines run counts)

-- the kinds of lines of a checkpoint, in the order in which it has them
pub data Kind : Type 0 where
  Title : Kind
  Device : Kind
  Name : Kind
  Level : Kind
  Date : Kind
  Since : Kind
  Block : Kind
  Blocks : Kind
  Counted : Kind

-- the kinds of the first eight lines; all further lines are of counted volumes
abbrev pub head : List Kind
head = Title ∷ Device ∷ Name ∷ Level ∷ Date ∷ Since ∷ Block ∷ Blocks ∷ []

-- each number of a count is within the limit
pub record AreNumbers (c : VolumeCount) : Type 0 where
  pub volume : c.volume ≤ blocks_limit
  pub first : c.first ≤ blocks_limit
  pub count : c.count ≤ blocks_limit

-- the line is a keyword and a number in this range, without leading zeros
abbrev pub IsNumberLine : List ℕ → ℕ → ℕ → List ℕ → Type 0
IsNumberLine word least most line = (n : ℕ) × IsInRange least most n × (line ≡ word ++ decimal n)

-- the line has the form of its kind, and is within the limits
abbrev pub IsLineOf : Kind → List ℕ → Type 0
IsLineOf Title line = line ≡ codes "rdump 1"
IsLineOf Device line = (device : List ℕ) × IsDevice device × (line ≡ codes "device " ++ device)
IsLineOf Name line = (name : List ℕ) × IsName name × (line ≡ codes "fs " ++ name)
IsLineOf Level line = IsNumberLine (codes "level ") 0 9 line
IsLineOf Date line = IsNumberLine (codes "date ") 0 last_second line
IsLineOf Since line = IsNumberLine (codes "since ") 0 last_second line
IsLineOf Block line = IsNumberLine (codes "block ") 1 RECORD_LIMIT line
IsLineOf Blocks line = IsNumberLine (codes "blocks ") 0 blocks_limit line
IsLineOf Counted line = (c : VolumeCount) × AreNumbers c × (line ≡ count_line c)

-- the lines are of these kinds, in order, and all further ones are counts
abbrev pub AreLinesOf : List Kind → List (List ℕ) → Type 0
AreLinesOf kinds [] = Unit {0}
AreLinesOf [] (line ∷ lines) = IsLineOf Counted line × AreLinesOf [] lines
AreLinesOf (kind ∷ kinds) (line ∷ lines) = IsLineOf kind line × AreLinesOf kinds lines

-- the kind of the line after `lines`, if the lines are of the kinds `kinds`, in order, and all
-- further ones are counts
abbrev pub kind_after : List Kind → List (List ℕ) → Kind
kind_after [] lines = Counted
kind_after (kind ∷ kinds) [] = kind
kind_after (kind ∷ kinds) (line ∷ lines) = kind_after kinds lines

-- The bytes do not begin with a line of that kind. If the kind is a count the bytes are also not
-- empty, because a checkpoint may end there.
abbrev pub LacksLine : Kind → List ℕ → Type 0
LacksLine kind bytes =
    ((line more : List ℕ) → IsLineOf kind line → bytes ≢ line ++ line_feed ∷ more) × (kind ≡ Counted → bytes ≢ [])

-- line `n`, counted from 1, is the first that does not have its form or is missing
pub record HasBadLine (bytes : List ℕ) (n : ℕ) : Type 0 where
  pub before : List (List ℕ)
  pub rest : List ℕ
  pub split : bytes ≡ joined before ++ rest
  pub good : AreLinesOf head before
  pub bad : LacksLine (kind_after head before) rest
  pub number : n ≡ length before + 1

-- All lines have their form. Line `n`, counted from 1, is the first count that does not follow
-- those before it.
pub record HasLineOutOfOrder (bytes : List ℕ) (n : ℕ) : Type 0 where
  pub run : PlainRun
  pub before : List VolumeCount
  pub count : VolumeCount
  pub after : List VolumeCount
  pub limits : IsRun run
  pub numbers : All AreNumbers (before ++ count ∷ after)
  pub spelled : bytes ≡ checkpoint_text run (before ++ count ∷ after)
  pub good : AreVolumes run 1 0 before
  pub bad : AreVolumes run 1 0 (before ++ count ∷ []) → ⊥
  pub number : n ≡ length before + 9

-- a checkpoint: a run, and the volumes of it that are counted
pub record PlainCheckpoint : Type 0 where
  pub run : PlainRun
  pub counts : List VolumeCount

-- why reading the bytes as a checkpoint fails; an allocation can fail whatever the bytes are
abbrev pub HasResumeFault : List ℕ → ResumeFault → Type 0
HasResumeFault bytes (BadLine n) = HasBadLine bytes n
HasResumeFault bytes (NotInOrder n) = HasLineOutOfOrder bytes n
HasResumeFault bytes OutOfMemory = Unit {0}

-- the bytes are the text of a run within its limits, and of counted volumes in order from volume 1
pub record SpellsCheckpoint (bytes : List ℕ) (run : PlainRun) (counts : List VolumeCount) : Type 0 where
  pub text : bytes ≡ checkpoint_text run counts
  pub limits : IsRun run
  pub in_order : AreVolumes run 1 0 counts
