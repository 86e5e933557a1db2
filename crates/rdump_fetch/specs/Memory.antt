-- A copy in memory. Public contracts cite it.
use Rattle.std.specs.Prelude.{◌≡◌, Option, Some}
use Rattle.rdump_fetch.specs.Copy.{PlainCopy}
use Rattle.rdump_fetch.specs.declared.memory_copy.CopyStage.{CopyStage}

-- A copy in memory, if one was begun, and how far it has come.
pub record HeldCopy : Type 0 where
  pub copy : Option PlainCopy
  pub stage : CopyStage

-- this is the copy
abbrev pub HasCopy : HeldCopy → Option PlainCopy → Type 0
HasCopy held copy = held.copy ≡ copy

-- this is the copy, and it is at this stage
abbrev pub HasCopyAt : CopyStage → HeldCopy → PlainCopy → Type 0
HasCopyAt stage held copy = (held.copy ≡ Some copy) × (held.stage ≡ stage)
