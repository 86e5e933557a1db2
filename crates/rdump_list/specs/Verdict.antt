-- The verdict on a reel, in words. Public contracts cite it.
use Rattle.std.specs.Prelude.{◌≡◌, ℕ, Bool, true, false, List, ◌++◌, codes, decimal, if◌then◌else◌, nat_eq}
use Rattle.volume_check.specs.declared.contents.ReelContents.{ReelContents}
use Rattle.volume_check.specs.declared.holding.Holding.{Holding}
use Rattle.volume_check.specs.declared.holding.Holding.TheVariants.{Empty, Volume, Foreign}
use Rattle.volume_check.specs.declared.holding.Volume as volumes
use Rattle.volume_check.specs.declared.holding.VolumeEnd.{VolumeEnd}
use Rattle.volume_check.specs.declared.holding.VolumeEnd.TheVariants.{NoMark, OneMark, MoreAfterMark}

-- whether exactly one mark and nothing else follows the blocks of a volume
abbrev pub is_end : VolumeEnd → Bool
is_end NoMark = false
is_end OneMark = true
is_end MoreAfterMark = false

-- whether the entries are a volume with exactly one mark and nothing else after its blocks
abbrev pub is_one_mark : Holding → Bool
is_one_mark Empty = false
is_one_mark (Volume v) = is_end v.end
is_one_mark Foreign = false

-- a volume is whole: one mark follows its blocks, and nothing follows that, not even a byte
pub record IsWhole (c : ReelContents) : Type 0 where
  pub volume : volumes.Volume
  pub holds : c.holding ≡ Volume volume
  pub ends : volume.end ≡ OneMark
  pub no_tail : c.tail ≡ 0

-- the verdict on a volume of this many blocks, given what follows them
abbrev pub volume_verdict : VolumeEnd → ℕ → List ℕ
volume_verdict NoMark blocks = codes "no mark: " ++ decimal blocks ++ codes " whole blocks"
volume_verdict OneMark blocks = codes "whole"
volume_verdict MoreAfterMark blocks = codes "more after the mark"

-- the verdict on what the entries of a reel are, if no bytes follow them
abbrev pub holding_verdict : Holding → List ℕ
holding_verdict Empty = codes "empty"
holding_verdict (Volume v) = volume_verdict v.end v.blocks
holding_verdict Foreign = codes "not a volume of rdump"

-- the verdict on bytes that follow the last entry and are not an entry
abbrev pub tail_verdict : ℕ → List ℕ
tail_verdict bytes = codes "tail of " ++ decimal bytes ++ codes " bytes"

-- a tail replaces the verdict on these entries: `whole` and `empty`
abbrev pub tail_replaces : Holding → Bool
tail_replaces Empty = true
tail_replaces (Volume v) = is_end v.end
tail_replaces Foreign = false

-- The verdict on a reel. A tail replaces `whole` and `empty`, and else follows the verdict on the
-- entries.
abbrev pub verdict_of : ReelContents → List ℕ
verdict_of c =
    if nat_eq c.tail 0 then holding_verdict c.holding
    else (if tail_replaces c.holding then tail_verdict c.tail else (holding_verdict c.holding ++ (codes ", " ++ tail_verdict c.tail)))
