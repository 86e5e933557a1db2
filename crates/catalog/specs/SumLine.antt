-- The line of a counted volume: the SHA-256 of its record file, and its numbers. The format is this
-- project's own. Public contracts cite it.
use Rattle.std.specs.Prelude.{◌≡◌, ◌⊎◌, ℕ, ◌+◌, ◌*◌, ◌<◌, ◌≤◌, List, ◌++◌, codes, length, decimal}
use Rattle.std.specs.Int.{IsInRange}
use Rattle.hex.specs.Hex.{IsBytes, encode_lower}
use Rattle.rmt_wire.specs.declared.limits.TheConstants.{RECORD_LIMIT}
use Rattle.dump_run.specs.Run.{blocks_limit}
use Rattle.dump_run.specs.Label.{PlainLabel, IsLabel}

-- the sum of a volume's record file, the volume's label, its number of blocks, and the size of each
-- block in bytes
pub record PlainSumLine : Type 0 where
  pub sum : List ℕ
  pub label : PlainLabel
  pub blocks : ℕ
  pub block_bytes : ℕ

-- makes a `PlainSumLine`
abbrev pub plain_sum_line : List ℕ → PlainLabel → ℕ → ℕ → PlainSumLine
plain_sum_line sum label blocks block_bytes =
    record { sum = sum; label = label; blocks = blocks; block_bytes = block_bytes }

-- 32 bytes
abbrev pub IsSum : List ℕ → Type 0
IsSum sum = (length sum ≡ 32) × IsBytes sum

-- The size of a block is 0 if the volume has no blocks. Else it is the size of a record.
abbrev pub IsSizeOf : ℕ → ℕ → Type 0
IsSizeOf blocks block_bytes =
    ((blocks ≡ 0) × (block_bytes ≡ 0)) ⊎ ((0 < blocks) × IsInRange 1 RECORD_LIMIT block_bytes)

-- the sum has 32 bytes, and the label and the numbers are within the limits of a volume
pub record IsSumLine (l : PlainSumLine) : Type 0 where
  pub sum : IsSum l.sum
  pub label : IsLabel l.label
  pub blocks : l.blocks ≤ blocks_limit
  pub size : IsSizeOf l.blocks l.block_bytes

-- a word, a number in decimal, and then a text
abbrev pub numbered : List ℕ → ℕ → List ℕ → List ℕ
numbered word n text = word ++ (decimal n ++ text)

-- a label, and the number and the size of the blocks, as a text
abbrev pub volume_text : PlainLabel → ℕ → ℕ → List ℕ
volume_text label blocks block_bytes =
    label.name
    ++ numbered (codes " level ") label.level
    (numbered (codes " date ") label.date
    (numbered (codes " since ") label.since
    (numbered (codes " volume ") label.volume
    (numbered (codes " first ") label.first
    (numbered (codes ", ") blocks
    (numbered (codes " blocks of ") block_bytes (codes " bytes")))))))

-- The size of a volume's record file: the label with its two lengths, each block with its two
-- lengths, and a mark. A label has 1024 bytes, and a length or a mark has 4.
abbrev pub file_bytes : ℕ → ℕ → ℕ
file_bytes blocks block_bytes = 1024 + 8 + blocks * (block_bytes + 8) + 4

-- the text of a line: the sum in hexadecimal, the volume, the size of the file, and a line feed
abbrev pub sum_line : PlainSumLine → List ℕ
sum_line l =
    encode_lower l.sum
    ++ (codes "  "
    ++ (volume_text l.label l.blocks l.block_bytes ++ numbered (codes ", ") (file_bytes l.blocks l.block_bytes) (codes " bytes\n")))
