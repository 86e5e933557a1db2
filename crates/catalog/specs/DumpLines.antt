-- The lines with which a dump begins and is finished, and their text. The format is this project's
-- own. Public contracts cite it.
use Rattle.std.specs.Prelude.{◌≡◌, ℕ, ◌<◌, ◌≤◌, ◌^◌, List, ◌++◌, codes, decimal}
use Rattle.std.specs.Int.{IsInRange}
use Rattle.dump_run.specs.DumpId.{PlainId, IsDumpId}
use Rattle.dump_run.specs.Run.{IsBlockSize, blocks_limit}
use Rattle.catalog.specs.SumLine.{numbered}

-- a dump that begins, and how many bytes its payload has
pub record PlainBegun : Type 0 where
  pub id : PlainId
  pub bytes : ℕ

-- makes a `PlainBegun`
abbrev pub plain_begun : PlainId → ℕ → PlainBegun
plain_begun id bytes = record { id = id; bytes = bytes }

-- a finished dump: how many volumes and blocks it has, and how many bytes a block and the payload
-- have
pub record PlainFinished : Type 0 where
  pub id : PlainId
  pub volumes : ℕ
  pub blocks : ℕ
  pub block_bytes : ℕ
  pub bytes : ℕ

-- makes a `PlainFinished`
abbrev pub plain_finished : PlainId → ℕ → ℕ → ℕ → ℕ → PlainFinished
plain_finished id volumes blocks block_bytes bytes =
    record { id = id; volumes = volumes; blocks = blocks; block_bytes = block_bytes; bytes = bytes }

-- the dump and the number are within their limits
pub record IsBegun (b : PlainBegun) : Type 0 where
  pub id : IsDumpId b.id
  pub bytes : b.bytes < 2 ^ 64

-- the dump and the numbers are within their limits
pub record IsFinished (f : PlainFinished) : Type 0 where
  pub id : IsDumpId f.id
  pub volumes : IsInRange 1 blocks_limit f.volumes
  pub blocks : f.blocks ≤ blocks_limit
  pub block_bytes : IsBlockSize f.block_bytes
  pub bytes : f.bytes < 2 ^ 64

-- the name, the level and the dates of a dump, as `/usr level 0 date 7 since 5`
abbrev pub id_text : PlainId → List ℕ
id_text d = d.name ++ numbered (codes " level ") d.level (numbered (codes " date ") d.date (codes " since " ++ decimal d.since))

-- the text of a dump that begins
abbrev pub begun_text : PlainBegun → List ℕ
begun_text b = codes "begun     " ++ (id_text b.id ++ numbered (codes ": ") b.bytes (codes " bytes\n"))

-- the text of a finished dump
abbrev pub finished_text : PlainFinished → List ℕ
finished_text f = codes "finished  "
    ++ (id_text f.id
    ++ numbered (codes ": ") f.volumes
    (numbered (codes " volumes, ") f.blocks
    (numbered (codes " blocks of ") f.block_bytes
    (numbered (codes " bytes, ") f.bytes (codes " bytes\n")))))
