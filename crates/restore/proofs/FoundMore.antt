-- One reel more was looked at.
use Rattle.std.proofs.Common.{◌≡◌, ℕ, ◌+◌, ◌<◌, List, [], ◌∷◌, ◌++◌, get_or, None, sym, ap, subst, ◌∙◌}
use Rattle.std.proofs.lemmas.List.Elements.{All-push, Contains-append_left, Contains-push}
use Rattle.std.specs.Prelude.{Contains}
use borrow.Author.Count.{below_more}
use Rattle.tape.proofs.Spelling.{spells_in}
use Rattle.dump_run.specs.Label.{PlainLabel, id_of}
use Rattle.volume_check.specs.Holding.{IsHolding}
use Rattle.volume_check.specs.declared.holding.Holding.TheVariants as holding
use Rattle.volume_check.specs.declared.holding.Volume.{Volume}
use Rattle.restore.proofs.Whole.{OneHolding, is_volume, same_volume, spelled, volume_entries, whole_of}
use Rattle.restore.specs.Found.{AreFound, IsFoundOn, IsWantedVolume}
use Rattle.restore.specs.Restored.{PlainWanted, Fits, IsTaken}
use Rattle.restore.specs.Volumes.{HasVolume, IsVolumeFile}
use Rattle.restore.specs.declared.volume.FoundVolume.{FoundVolume}

-- a record file is of one volume
pub same_label : OneHolding → (bytes : List ℕ) (l m : PlainLabel) (s t : ℕ) (bs cs : List (List ℕ)) → IsVolumeFile bytes l s bs → IsVolumeFile bytes m t cs → l ≡ m
same_label one bytes l m s t bs cs v w =
    let entries = spells_in bytes (volume_entries l bs) (spelled bytes l s bs v) ∙ sym (spells_in bytes (volume_entries m cs) (spelled bytes m t cs w)) in
    ap (λ (x : Volume). x.label) (same_volume (one (holding.Volume (whole_of l s bs)) (holding.Volume (whole_of m t cs)) (volume_entries l bs)
    (is_volume bytes l s bs v) (subst (λ es. IsHolding (holding.Volume (whole_of m t cs)) es) (sym entries) (is_volume bytes m t cs w))))

-- each whole volume on the reel of this number that is wanted is among those that were found
abbrev IsThere : List (List ℕ) → PlainWanted → List FoundVolume → ℕ → Type 0
IsThere reels wanted found number = (label : PlainLabel) (size : ℕ) (blocks : List (List ℕ)) → HasVolume reels number label size blocks → Fits wanted (id_of label)
    → IsTaken wanted.lines label (get_or reels number []) → (f : FoundVolume) × Contains found f × (f.reel ≡ number)

every_more : (reels : List (List ℕ)) (wanted : PlainWanted) (found : List FoundVolume) (n : ℕ) → ((k : ℕ) → k < n → IsThere reels wanted found k)
    → IsThere reels wanted found n → (k : ℕ) → k < n + 1 → IsThere reels wanted found k
every_more reels wanted found n before here = below_more (IsThere reels wanted found) n before here

-- there was no whole volume that is taken
pub none_more : (reels : List (List ℕ)) (wanted : PlainWanted) (found : List FoundVolume) (n : ℕ) → AreFound reels wanted n found
    → IsFoundOn reels wanted n None → AreFound reels wanted (n + 1) found
none_more reels wanted found n a none = record {
  each = a.each;
  every = λ k label size blocks less has fits taken.
      every_more reels wanted found n (λ j low l s bs. a.every j l s bs low) (λ l s bs is fit known. absurd (none l s bs is fit known)) k less label size blocks
      has fits taken;
}

-- a volume was found
pub one_more : (reels : List (List ℕ)) (wanted : PlainWanted) (found : List FoundVolume) (n : ℕ) (f : FoundVolume) → AreFound reels wanted n found
    → f.reel ≡ n → IsWantedVolume reels wanted f → AreFound reels wanted (n + 1) (found ++ f ∷ [])
one_more reels wanted found n f a is good = record {
  each = All-push (IsWantedVolume reels wanted) found f a.each good;
  every = λ k label size blocks less has fits taken.
      every_more reels wanted (found ++ f ∷ []) n
      (λ j low l s bs has fit known. let (g, among, at) = a.every j l s bs low has fit known in (g, Contains-append_left found (f ∷ []) g among, at))
      (λ l s bs has fit known. (f, Contains-push found f, is)) k less label size blocks has fits taken;
}
