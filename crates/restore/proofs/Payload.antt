-- The parts of a dump that is wanted, and the bytes that are written of them.
use Rattle.std.proofs.Common.{◌≡◌, ◌≢◌, ℕ, zero, suc, ◌+◌, ◌-◌, ◌*◌, List, [], ◌∷◌, ◌++◌, length, get_or, take, refl, sym, ap, subst, ◌∙◌, Option, Some, None, length-append, add-mul, zero-mul, suc-mul, arith}
use Rattle.std.proofs.lemmas.List.{length-replicate, take_at}
use Rattle.std.proofs.lemmas.List.Elements.{All-head, All-tail, Contains-append_right}
use Rattle.std.specs.List.{concat}
use Rattle.std.specs.Option.{unwrap_or}
use Rattle.std.specs.Prelude.{All, Contains}
use Rattle.dump_run.specs.DumpId.{PlainId}
use Rattle.dump_run.specs.Label.{id_of}
use Rattle.catalog.specs.declared.line.CatalogLine.{CatalogLine}
use Rattle.restore.proofs.Blocks.{one_size}
use Rattle.restore.proofs.Chosen.{none_left}
use Rattle.restore.specs.Partial.{AreParts, IsPartial, Part, end_of, filled, gap_at, gap_behind, gaps_before, of_length, zeros}
use Rattle.restore.specs.Restored.{PlainWanted, Fits, IsTaken}
use Rattle.restore.specs.Spaced.{AreFilled, ArePresent, AreSpaced, end_after, gaps_in}
use Rattle.restore.specs.Volumes.{HasVolume, volume_label}
use Rattle.restore.specs.declared.gap.Gap.{Gap}
use Rattle.restore.specs.declared.volume.FoundVolume.{FoundVolume}

-- joined blocks of one size
concat_length : (size : ℕ) (blocks : List (List ℕ)) → All (λ b. length b ≡ size) blocks → length (concat blocks) ≡ length blocks * size
concat_length size [] sizes = sym (zero-mul size)
concat_length size (b ∷ bs) sizes =
    let is = All-head (λ x. length x ≡ size) b bs sizes in
    omega (arith, length-append b (concat bs), concat_length size bs (All-tail (λ x. length x ≡ size) b bs sizes), suc-mul (length bs) size)

-- the parts that spaced volumes are
module _ (reels : List (List ℕ)) (id : PlainId) (size : ℕ) where
  parts : (volume first : ℕ) (fs : List FoundVolume) → AreSpaced reels id size volume first fs → List Part
  parts volume first [] s = []
  parts volume first (f ∷ fs) s =
      record { missing = f.label.first - first; volume = f.label.volume; reel = f.reel; blocks = s.5.0 } ∷ parts (f.label.volume + 1) (f.label.first + f.blocks) fs s.6

  -- where a part begins and ends
  begins : (volume first : ℕ) (f : FoundVolume) (fs : List FoundVolume) → AreSpaced reels id size volume first (f ∷ fs) → first + (f.label.first - first) ≡ f.label.first
  begins volume first f fs s = let least = s.1 in omega arith

  ends : (volume first : ℕ) (f : FoundVolume) (fs : List FoundVolume) (s : AreSpaced reels id size volume first (f ∷ fs))
      → f.label.first + f.blocks ≡ first + (f.label.first - first) + length s.5.0
  ends volume first f fs s = let least = s.1 in let count = s.5.1.1 in omega arith

  are_parts : (lines : Option (List CatalogLine)) (volume first : ℕ) (fs : List FoundVolume) (s : AreSpaced reels id size volume first fs)
      → All (λ f. IsTaken lines f.label (get_or reels f.reel [])) fs → AreParts reels lines id size volume first (parts volume first fs s)
  unfolding parts
  are_parts lines volume first [] s all = tt
  are_parts lines volume first (f ∷ fs) s all =
      let P : FoundVolume → Type 0 = λ g. IsTaken lines g.label (get_or reels g.reel []) in
      let blocks = s.5.0 in
      let missing = f.label.first - first in
      let rest = parts (f.label.volume + 1) (f.label.first + f.blocks) fs s.6 in
      let label = s.2 ∙ ap (λ n. volume_label id f.label.volume n) (sym (begins volume first f fs s)) in
      let there = subst (λ n. HasVolume reels f.reel f.label n blocks) s.3 s.5.1.0 in
      let sized = s.4 in (
        s.0,
        subst (λ l. HasVolume reels f.reel l size blocks) label there,
        subst (λ l. IsTaken lines l (get_or reels f.reel [])) label (All-head P f fs all),
        λ none. (let at = sized none in omega arith),
        subst (λ n. AreParts reels lines id size (f.label.volume + 1) n rest) (ends volume first f fs s)
            (are_parts lines (f.label.volume + 1) (f.label.first + f.blocks) fs s.6 (All-tail P f fs all)),
      )

  end_is : (volume first : ℕ) (fs : List FoundVolume) (s : AreSpaced reels id size volume first fs) → end_of first (parts volume first fs s) ≡ end_after first fs
  unfolding parts
  end_is volume first [] s = refl
  end_is volume first (f ∷ fs) s =
      ap (λ n. end_of n (parts (f.label.volume + 1) (f.label.first + f.blocks) fs s.6)) (sym (ends volume first f fs s))
      ∙ end_is (f.label.volume + 1) (f.label.first + f.blocks) fs s.6

  gaps_are : (volume first : ℕ) (fs : List FoundVolume) (s : AreSpaced reels id size volume first fs) → gaps_before first (parts volume first fs s) ≡ gaps_in first fs
  unfolding parts
  gaps_are volume first [] s = refl
  gaps_are volume first (f ∷ fs) s =
      let gap = gap_at first (f.label.first - first) in
      ap (λ n. gap ++ gaps_before n (parts (f.label.volume + 1) (f.label.first + f.blocks) fs s.6)) (sym (ends volume first f fs s))
      ∙ ap (λ l. gap ++ l) (gaps_are (f.label.volume + 1) (f.label.first + f.blocks) fs s.6)

  are_filled : (volume first : ℕ) (fs : List FoundVolume) (s : AreSpaced reels id size volume first fs)
      → AreFilled reels first fs (filled size (parts volume first fs s))
  unfolding parts
  are_filled volume first [] s = refl
  are_filled volume first (f ∷ fs) s =
      let rest = filled size (parts (f.label.volume + 1) (f.label.first + f.blocks) fs s.6) in (
        s.5.0,
        rest,
        ap (λ n. (zeros ((f.label.first - first) * n) ++ concat s.5.0) ++ rest) (sym s.3),
        s.5.1,
        are_filled (f.label.volume + 1) (f.label.first + f.blocks) fs s.6,
      )

  length_is : (volume first : ℕ) (fs : List FoundVolume) (s : AreSpaced reels id size volume first fs)
      → length (filled size (parts volume first fs s)) + first * size ≡ end_after first fs * size
  unfolding parts
  length_is volume first [] s = omega arith
  length_is volume first (f ∷ fs) s =
      let blocks = s.5.0 in
      let missing = f.label.first - first in
      let rest = filled size (parts (f.label.volume + 1) (f.label.first + f.blocks) fs s.6) in
      let sizes = one_size size blocks (rw s.3 at s.5.1.0.1.sizes) in
      let start : (first + missing) * size ≡ first * size + missing * size = add-mul first missing size in
      let stop : (first + missing + length blocks) * size ≡ (first + missing) * size + length blocks * size = add-mul (first + missing) (length blocks) size in
      let front : length (zeros (missing * size) ++ concat blocks) ≡ missing * size + length blocks * size
      = length-append (zeros (missing * size)) (concat blocks) ∙ ap (λ n. n + length (concat blocks)) (length-replicate (missing * size) 0)
      ∙ ap (λ n. missing * size + n) (concat_length size blocks sizes) in
      let all : length ((zeros (missing * size) ++ concat blocks) ++ rest) ≡ (missing * size + length blocks * size) + length rest
      = length-append (zeros (missing * size) ++ concat blocks) rest ∙ ap (λ n. n + length rest) front in
      let later : length rest + (first + missing + length blocks) * size ≡ end_after (f.label.first + f.blocks) fs * size
      = ap (λ n. length rest + n * size) (sym (ends volume first f fs s)) ∙ length_is (f.label.volume + 1) (f.label.first + f.blocks) fs s.6 in
      omega arith

  -- each volume has a part
  placed : (volume first : ℕ) (fs : List FoundVolume) (s : AreSpaced reels id size volume first fs) (f : FoundVolume) → Contains fs f
      → (p : Part) × Contains (parts volume first fs s) p × (p.reel ≡ f.reel)
  unfolding parts
  placed volume first [] s f has = absurd (none_left [] f refl has)
  placed volume first (g ∷ gs) s f (zero, within, is) =
      let rest = parts (g.label.volume + 1) (g.label.first + g.blocks) gs s.6 in
      let p : Part = record { missing = g.label.first - first; volume = g.label.volume; reel = g.reel; blocks = s.5.0 } in
      let there : Contains (p ∷ rest) p = (0, omega arith, refl) in (p, there, ap (λ (h : FoundVolume). h.reel) is)
  placed volume first (g ∷ gs) s f (suc k, within, is) =
      let rest = parts (g.label.volume + 1) (g.label.first + g.blocks) gs s.6 in
      let p : Part = record { missing = g.label.first - first; volume = g.label.volume; reel = g.reel; blocks = s.5.0 } in
      let (q, there, at) = placed (g.label.volume + 1) (g.label.first + g.blocks) gs s.6 f (k, omega arith, is) in
      (q, Contains-append_right (p ∷ []) rest q there, at)

-- What is there of a dump that is wanted: its bytes are those of the volumes, and they are what is restored.
pub partial_of : (reels : List (List ℕ)) (wanted : PlainWanted) (asked : Option ℕ) (size : ℕ) (volumes : List FoundVolume) (gaps : List Gap)
    → ArePresent reels wanted size volumes → volumes ≢ [] → gaps ≡ gaps_in 0 volumes ++ gap_behind asked size (end_after 0 volumes)
    → (bytes : List ℕ) × AreFilled reels 0 volumes bytes × (length bytes ≡ end_after 0 volumes * size) × IsPartial reels wanted asked (of_length asked bytes) gaps
unfolding parts
partial_of reels wanted asked size [] gaps present some gaps_is = absurd (some refl)
partial_of reels wanted asked size (f ∷ fs) gaps present some gaps_is =
    let id = id_of f.label in
    let spaced = present.spaced in
    let all = parts reels id size 1 0 (f ∷ fs) spaced in (
      filled size all,
      are_filled reels id size 1 0 (f ∷ fs) spaced,
      omega (arith, length_is reels id size 1 0 (f ∷ fs) spaced, zero-mul size),
      record {
        id = id;
        size = size;
        parts = all;
        fits = All-head (λ g. Fits wanted (id_of g.label)) f fs present.fits;
        some = some_parts;
        placed = are_parts reels id size wanted.lines 1 0 (f ∷ fs) spaced present.taken;
        only = λ number label each blocks has fits taken.
            (let (g, there, is) = present.only number label each blocks has fits taken in
            let (p, here, at) = placed reels id size 1 0 (f ∷ fs) spaced g there in
            (p, here, ap (λ n. get_or reels n []) at ∙ is));
        bytes_are = refl;
        gaps_are = gaps_is
            ∙ ap (λ l. l ++ gap_behind asked size (end_after 0 (f ∷ fs))) (sym (gaps_are reels id size 1 0 (f ∷ fs) spaced))
            ∙ ap (λ n. gaps_before 0 all ++ gap_behind asked size n) (sym (end_is reels id size 1 0 (f ∷ fs) spaced));
      },
    )
  where
    some_parts : parts reels (id_of f.label) size 1 0 (f ∷ fs) present.spaced ≢ []
    some_parts is = cc

-- so many bytes are all that is restored
pub all_bytes : (asked : Option ℕ) (bytes : List ℕ) (total : ℕ) → total ≡ unwrap_or asked (length bytes)
    → take total (bytes ++ zeros total) ≡ of_length asked bytes
all_bytes None bytes total is = take_at bytes (zeros total) total (sym is)
all_bytes (Some n) bytes total is = ap (λ k. take k (bytes ++ zeros k)) is

-- All that is written of a dump that is wanted, which is so many bytes, and what is restored.
pub whole_of_parts : (reels : List (List ℕ)) (wanted : PlainWanted) (asked : Option ℕ) (size : ℕ) (volumes : List FoundVolume) (gaps : List Gap) (end total : ℕ)
    → ArePresent reels wanted size volumes → volumes ≢ [] → gaps ≡ gaps_in 0 volumes ++ gap_behind asked size (end_after 0 volumes) → end ≡ end_after 0 volumes
    → total ≡ unwrap_or asked (end * size)
    → (bytes : List ℕ) × AreFilled reels 0 volumes bytes × IsPartial reels wanted asked (take total (bytes ++ zeros total)) gaps
whole_of_parts reels wanted asked size volumes gaps end total present some gaps_is end_is total_is =
    let (bytes, are, long, partial) = partial_of reels wanted asked size volumes gaps present some gaps_is in
    let all = all_bytes asked bytes total (total_is ∙ ap (λ n. unwrap_or asked n) (ap (λ n. n * size) end_is ∙ sym long)) in
    (bytes, are, subst (λ b. IsPartial reels wanted asked b gaps) (sym all) partial)
