-- When the contents of a reel are a whole volume.
use Rattle.std.proofs.Common.{◌≡◌, ℕ, ◌-◌, ◌<◌, ◌≤◌, Some, None, get_or, List, [], ◌∷◌, ◌++◌, length, refl, sym, ap, subst, ◌∙◌, append-nil, length-append, arith}
use Rattle.std.proofs.lemmas.List.Elements.{All-append, All-cons, All-head, All-map, All-nil, All-tail, All-weaker}
use Rattle.std.specs.Prelude.{All, map}
use Rattle.tape.proofs.Spelling.{found_in, image_size}
use Rattle.tape.specs.RecordFile.{SpellsReel, entries_in, image_of, images_of}
use Rattle.tape.specs.Tape.{PlainEntry, IsTapeEntry}
use Rattle.tape.specs.Tape.PlainEntry.{Record, Mark}
use Rattle.rmt_wire.specs.declared.limits.TheConstants.{RECORD_LIMIT}
use Rattle.dump_run.proofs.LabelReading.{length_record}
use Rattle.dump_run.specs.Label.{PlainLabel, label_record}
use Rattle.dump_run.specs.Run.{blocks_limit}
use Rattle.volume_check.specs.Holding.{IsHolding, IsVolume}
use Rattle.volume_check.specs.declared.contents.ReelContents.{ReelContents}
use Rattle.volume_check.specs.declared.holding.Holding.{Holding}
use Rattle.volume_check.specs.declared.holding.Holding.TheVariants as holding
use Rattle.volume_check.specs.declared.holding.Volume.{Volume}
use Rattle.volume_check.specs.declared.holding.VolumeEnd.TheVariants.{OneMark}
use Rattle.restore.proofs.Blocks.{one_size}
use Rattle.restore.specs.Found.{IsChecked, IsFinding, IsFoundOn, IsNotTaken}
use Rattle.restore.specs.Restored.{PlainWanted}
use Rattle.restore.specs.declared.found.Finding.TheVariants.{Taken}
use Rattle.restore.specs.declared.volume.FoundVolume.{FoundVolume}
use Rattle.restore.specs.Volumes.{AreBlocks, IsVolumeFile, volume_file}

-- entries have one description
abbrev pub OneHolding : Type 0
OneHolding = (h k : Holding) (entries : List PlainEntry) → IsHolding h entries → IsHolding k entries → h ≡ k

-- blocks of one size that are records have the size of a record
sizes_are : (size : ℕ) (blocks : List (List ℕ)) (rest : List PlainEntry) → All IsTapeEntry (map Record blocks ++ rest) → All (λ b. length b ≡ size) blocks
    → (blocks ≡ [] → size ≡ 0) → AreBlocks size blocks
sizes_are size [] rest lawful sizes none = none refl
sizes_are size (b ∷ bs) rest lawful sizes none =
    let first = All-head IsTapeEntry (Record b) (map Record bs ++ rest) lawful in
    let is = All-head (λ x. length x ≡ size) b bs sizes in (rw is at first, sizes)

-- nothing is behind the entries
no_tail : (xs tail : List ℕ) (size : ℕ) → size ≡ 0 → size ≡ length (xs ++ tail) - length xs → xs ++ tail ≡ xs
no_tail xs [] size none is = append-nil xs
no_tail xs (y ∷ ys) size none is = absurd (omega (arith, length-append xs (y ∷ ys)))

-- the volume that was found is whole
pub whole_file : (bytes : List ℕ) (c : ReelContents) (v : Volume) → IsChecked bytes c → c.holding ≡ holding.Volume v → c.tail ≡ 0 → v.end ≡ OneMark
    → v.blocks ≤ blocks_limit → (blocks : List (List ℕ)) × IsVolumeFile bytes v.label v.block_bytes blocks × (v.blocks ≡ length blocks)
whole_file bytes c v told is none one few =
    let entries = entries_in bytes in
    let s = found_in bytes in
    let contents = told entries s in
    let w : IsVolume v.label v.blocks v.block_bytes v.end entries = subst (λ h. IsHolding h entries) is contents.holding in
    let u : IsVolume v.label v.blocks v.block_bytes OneMark entries = rw one at w in
    let parts = u.whole ∙ ap (λ r. Record (label_record v.label) ∷ (map Record u.blocks ++ r)) u.end_is in
    let tail : c.tail ≡ length (images_of entries ++ s.tail) - length (images_of entries) = contents.tail ∙ ap (λ l. length l - length (images_of entries)) s.whole in
    let lawful = All-tail IsTapeEntry (Record (label_record v.label)) (map Record u.blocks ++ u.rest) (subst (All IsTapeEntry) u.whole s.lawful) in (
      u.blocks,
      record {
        is_label = u.label;
        sizes = sizes_are v.block_bytes u.blocks u.rest lawful u.sizes u.none;
        few = omega (arith, u.counted);
        file = s.whole ∙ no_tail (images_of entries) s.tail c.tail none tail ∙ ap images_of parts;
      },
      u.counted,
    )

-- the entries of a whole volume
abbrev pub volume_entries : PlainLabel → List (List ℕ) → List PlainEntry
volume_entries label blocks = Record (label_record label) ∷ (map Record blocks ++ Mark ∷ [])

blocks_lawful : (size : ℕ) (blocks : List (List ℕ)) → AreBlocks size blocks → All IsTapeEntry (map Record blocks)
blocks_lawful size [] sizes = All-nil IsTapeEntry
blocks_lawful size (b ∷ bs) sizes =
    All-map IsTapeEntry Record (b ∷ bs) (All-weaker (λ x. length x ≡ size) (λ x. IsTapeEntry (Record x)) (λ x is. rw is sizes.0) (b ∷ bs) sizes.1)

pub spelled : (bytes : List ℕ) (label : PlainLabel) (size : ℕ) (blocks : List (List ℕ)) → IsVolumeFile bytes label size blocks → SpellsReel bytes (volume_entries label blocks)
spelled bytes label size blocks v = record {
  tail = [];
  whole = v.file ∙ sym (append-nil (volume_file label blocks));
  is_tail = λ entry rest lawful is. absurd (omega (arith, image_size entry, ap length is, length-append (image_of entry) rest));
  lawful = All-cons IsTapeEntry (Record (label_record label)) (map Record blocks ++ Mark ∷ []) (rw (length_record label v.is_label) (omega arith, omega arith))
      (All-append IsTapeEntry (map Record blocks) (Mark ∷ []) (blocks_lawful size blocks v.sizes) (All-cons IsTapeEntry Mark [] tt (All-nil IsTapeEntry)));
}

no_block : (size : ℕ) (blocks : List (List ℕ)) → AreBlocks size blocks → blocks ≡ [] → size ≡ 0
no_block size [] sizes is = sizes
no_block size (b ∷ bs) sizes is = cc

-- the volume that the contents of a whole one are
abbrev pub whole_of : PlainLabel → ℕ → List (List ℕ) → Volume
whole_of label size blocks = record { label = label; blocks = length blocks; block_bytes = size; end = OneMark }

pub is_volume : (bytes : List ℕ) (label : PlainLabel) (size : ℕ) (blocks : List (List ℕ)) → IsVolumeFile bytes label size blocks
    → IsVolume label (length blocks) size OneMark (volume_entries label blocks)
is_volume bytes label size blocks v = record {
  blocks = blocks;
  rest = Mark ∷ [];
  whole = refl;
  label = v.is_label;
  counted = refl;
  sizes = one_size size blocks v.sizes;
  none = no_block size blocks v.sizes;
  end_is = refl;
}

-- a whole volume is found
pub is_found : (bytes : List ℕ) (c : ReelContents) → OneHolding → IsChecked bytes c → (label : PlainLabel) (size : ℕ) (blocks : List (List ℕ))
    → IsVolumeFile bytes label size blocks → (c.holding ≡ holding.Volume (whole_of label size blocks)) × (c.tail ≡ 0)
is_found bytes c one told label size blocks v =
    let entries = volume_entries label blocks in
    let contents = told entries (spelled bytes label size blocks v) in
    (one c.holding (holding.Volume (whole_of label size blocks)) entries contents.holding (is_volume bytes label size blocks v), omega (arith, contents.tail, ap length v.file))

-- a volume that is two is one
pub same_volume : {v w : Volume} → holding.Volume v ≡ holding.Volume w → v ≡ w
same_volume is = cc

-- blocks have at most the size of a record
pub size_bound : (size : ℕ) (blocks : List (List ℕ)) → AreBlocks size blocks → size ≤ RECORD_LIMIT
size_bound size [] sizes = omega arith
size_bound size (b ∷ bs) sizes = omega arith

-- what was found in the bytes of a reel was found on it
pub taken_on : (reels : List (List ℕ)) (wanted : PlainWanted) (number : ℕ) (f : FoundVolume) → number < length reels
    → IsFinding (get_or reels number []) wanted number (Taken f) → IsFoundOn reels wanted number (Some f)
taken_on reels wanted number f within found =
    (found.0.0, (found.1, rw found.0.0 found.2, (found.0.1.0, (rw found.0.0 (within, found.0.1.1), found.0.1.2))))

-- and so is that none is taken
pub none_on : (reels : List (List ℕ)) (wanted : PlainWanted) (number : ℕ) → IsNotTaken (get_or reels number []) wanted → IsFoundOn reels wanted number None
none_on reels wanted number none = λ label size blocks has fits taken. none label size blocks has.1 fits taken
