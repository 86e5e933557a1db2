-- A run: what is dumped, to which drive, and in how many blocks (dump(8)). Public contracts cite
-- it.
use Rattle.std.specs.Prelude.{◌≡◌, ◌⊎◌, ℕ, ◌<◌, ◌≤◌, List, length, Result, MatchResult}
use Rattle.std.specs.Int.{IsInRange}
use Rattle.rmt_wire.specs.Number.{HasNoLineFeed}
use Rattle.rmt_wire.specs.declared.limits.TheConstants.{RECORD_LIMIT}
use Rattle.dumpdates.specs.Entry.{IsName, last_second}
use Rattle.dump_run.specs.DumpId.{PlainId, plain_id}
use Rattle.dump_run.specs.declared.fault.RunFault.{RunFault}
use Rattle.dump_run.specs.declared.fault.RunFault.TheVariants.{BadDevice, BadName, BadLevel, BadDate, BadBlockSize, TooManyBlocks}

-- A run: the drive, the file system's name, the level, two dates, the size of a block in bytes, and
-- the number of blocks. The dates are those of this dump and of the dump that it builds on.
pub record PlainRun : Type 0 where
  pub device : List ℕ
  pub name : List ℕ
  pub level : ℕ
  pub date : ℕ
  pub since : ℕ
  pub block_bytes : ℕ
  pub blocks : ℕ

-- a run, made of its parts
abbrev pub plain_run : List ℕ → List ℕ → ℕ → ℕ → ℕ → ℕ → ℕ → PlainRun
plain_run device name level date since block_bytes blocks =
    record { device = device; name = name; level = level; date = date; since = since; block_bytes = block_bytes; blocks = blocks }

-- the dump of a run
abbrev pub id_of_run : PlainRun → PlainId
id_of_run run = plain_id run.name run.level run.date run.since

-- the device is 1 to 255 bytes without a line feed
abbrev pub IsDevice : List ℕ → Type 0
IsDevice device = IsInRange 1 255 (length device) × HasNoLineFeed device

-- a block is written as one record, so its size is that of a record
abbrev pub IsBlockSize : ℕ → Type 0
IsBlockSize bytes = IsInRange 1 RECORD_LIMIT bytes

-- the greatest number of blocks in a run
abbrev pub blocks_limit : ℕ
blocks_limit = 2147483647

-- the run is within its limits
pub record IsRun (r : PlainRun) : Type 0 where
  pub device : IsDevice r.device
  pub name : IsName r.name
  pub level : r.level ≤ 9
  pub date : r.date ≤ last_second
  pub since : r.since ≤ last_second
  pub block_bytes : IsBlockSize r.block_bytes
  pub blocks : r.blocks ≤ blocks_limit

-- this limit is broken, and none of those before it
abbrev pub IsFirstBroken : RunFault → PlainRun → Type 0
IsFirstBroken BadDevice r = IsDevice r.device → ⊥
IsFirstBroken BadName r = IsDevice r.device × (IsName r.name → ⊥)
IsFirstBroken BadLevel r = IsDevice r.device × IsName r.name × (9 < r.level)
IsFirstBroken BadDate r = IsDevice r.device × IsName r.name × (r.level ≤ 9) × ((last_second < r.date) ⊎ (last_second < r.since))
IsFirstBroken BadBlockSize r =
    IsDevice r.device × IsName r.name × (r.level ≤ 9) × (r.date ≤ last_second) × (r.since ≤ last_second) × (IsBlockSize r.block_bytes → ⊥)
IsFirstBroken TooManyBlocks r =
    IsDevice r.device × IsName r.name × (r.level ≤ 9) × (r.date ≤ last_second) × (r.since ≤ last_second) × IsBlockSize r.block_bytes
    × (blocks_limit < r.blocks)

-- the run is within its limits, or the result is the first limit that is broken
abbrev pub IsCheckedRun : PlainRun → Result Unit RunFault → Type 0
IsCheckedRun run result = MatchResult result (λ _. IsRun run) (λ fault. IsFirstBroken fault run)

-- the result is this run, or the first of its limits that is broken
abbrev pub IsRunOf : PlainRun → Result PlainRun RunFault → Type 0
IsRunOf run result = MatchResult result (λ made. made ≡ run) (λ fault. IsFirstBroken fault run)

-- both runs are of one dump: all but the dates is the same
abbrev pub AreOfOneDump : PlainRun → PlainRun → Type 0
AreOfOneDump r s = (r.device ≡ s.device) × (r.name ≡ s.name) × (r.level ≡ s.level) × (r.block_bytes ≡ s.block_bytes) × (r.blocks ≡ s.blocks)
