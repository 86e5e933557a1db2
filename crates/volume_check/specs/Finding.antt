-- What the functions that read a reel find. No public contract needs it.
use Rattle.std.specs.Prelude.{◌≡◌, ℕ, ◌+◌, ◌<◌, ◌^◌, List, [], ◌∷◌, ◌++◌, length, drop}
use Rattle.std.specs.List.{All}
use Rattle.tape.specs.Tape.{PlainEntry, IsTapeEntry}
use Rattle.tape.specs.Tape.PlainEntry.{Record}
use Rattle.tape.specs.RecordFile.{images_of, SpellsReel}
use Rattle.tape.specs.Scan.{IsFirst}
use Rattle.volume_check.specs.Holding.{IsVolume}
use Rattle.volume_check.specs.Contents.{Tally, IsTally}
use Rattle.volume_check.specs.declared.holding.Volume.{Volume}

-- The entries are this volume.
abbrev pub IsOfVolume : Volume → List PlainEntry → Type 0
IsOfVolume v entries = IsVolume v.label v.blocks v.block_bytes v.end entries

-- The entry of this length that these bytes begin with is added to a tally.
abbrev pub AddsEntry : List ℕ → ℕ → Tally → Tally → Type 0
AddsEntry bytes n old new =
    (written rest : List ℕ) (f : IsFirst bytes written rest) → n ≡ length written → (done : List PlainEntry) → length done + 1 < 2 ^ 64 →
    IsTally old done → IsTally new (done ++ f.entry ∷ [])

-- The record whose bytes are the first `n` of these is added to a tally.
abbrev pub AddsRecord : List ℕ → ℕ → Tally → Tally → Type 0
AddsRecord there n old new =
    (written rest : List ℕ) → there ≡ written ++ rest → n ≡ length written → (done : List PlainEntry) → length done + 1 < 2 ^ 64 →
    IsTally old done → IsTally new (done ++ Record written ∷ [])

-- The bytes before this offset are the images of entries that were added to the tally.
pub record IsTalliedUpTo (bytes : List ℕ) (at : ℕ) (t : Tally) : Type 0 where
  pub done : List PlainEntry
  pub whole : bytes ≡ images_of done ++ drop at bytes
  pub place : at ≡ length (images_of done)
  pub lawful : All IsTapeEntry done
  pub tally : IsTally t done

-- The tally is that of the entries that the bytes spell, and they end at this offset.
abbrev pub IsTallyOfFile : List ℕ → ℕ → Tally → Type 0
IsTallyOfFile bytes end t = (entries : List PlainEntry) → SpellsReel bytes entries → (end ≡ length (images_of entries)) × IsTally t entries
