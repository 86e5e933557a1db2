-- Volumes of one dump with gaps between them, and one more.
use Rattle.std.proofs.Common.{◌≡◌, ℕ, ◌+◌, ◌-◌, ◌<◌, ◌≤◌, zero, suc, List, [], ◌∷◌, ◌++◌, length, get_or, refl, sym, ap, subst, ◌∙◌, append_assoc, append-nil, arith}
use Rattle.std.proofs.lemmas.List.Elements.{All-contains, All-cons, All-nil, All-weaker}
use Rattle.std.specs.Prelude.{All, Contains}
use Rattle.dump_run.specs.DumpId.{PlainId}
use Rattle.dump_run.specs.Label.{id_of}
use Rattle.restore.proofs.ChainMore.{IsOnReel, label_is, same_id}
use Rattle.restore.specs.Chain.{AreAlike, IsAmong, IsReelOf}
use Rattle.restore.specs.Found.{AreFound, IsWantedVolume}
use Rattle.restore.specs.Partial.{gap_at}
use Rattle.restore.specs.Restored.{PlainWanted, Fits, IsTaken}
use Rattle.restore.specs.Spaced.{AreOfOneDump, ArePresent, AreSpaced, IsSpacing, end_after, gaps_in, next_after}
use Rattle.restore.specs.Volumes.{volume_label}
use Rattle.restore.specs.declared.gap.Gap.{Gap}
use Rattle.restore.specs.declared.volume.FoundVolume.{FoundVolume}

-- a range that has a block
pub gap_some : (first end count : ℕ) → first < end → count ≡ end - first → gap_at first count ≡ record { first = first; end = end } ∷ []
gap_some first end zero less is = absurd (omega arith)
gap_some first end (suc more) less is =
    let e : first + suc more ≡ end = omega arith in ap (λ n. let g : Gap = record { first = first; end = n } in g ∷ []) e

-- a range that has none
pub gap_none : (first count : ℕ) → count ≡ 0 → gap_at first count ≡ []
gap_none first count none = ap (gap_at first) none

spaced_push : (reels : List (List ℕ)) (id : PlainId) (size volume first : ℕ) (fs : List FoundVolume) (f : FoundVolume) → AreSpaced reels id size volume first fs
    → next_after volume fs ≤ f.label.volume → end_after first fs ≤ f.label.first → f.label ≡ volume_label id f.label.volume f.label.first → f.block_bytes ≡ size
    → (size ≡ 0 → f.label.first ≡ end_after first fs) → IsOnReel reels f → AreSpaced reels id size volume first (fs ++ f ∷ [])
spaced_push reels id size volume first [] f s number at label same sized on = (number, at, label, same, sized, on, tt)
spaced_push reels id size volume first (g ∷ gs) f s number at label same sized on =
    (s.0, s.1, s.2, s.3, s.4, s.5, spaced_push reels id size (g.label.volume + 1) (g.label.first + g.blocks) gs f s.6 number at label same sized on)

end_push : (first : ℕ) (fs : List FoundVolume) (f : FoundVolume) → end_after first (fs ++ f ∷ []) ≡ f.label.first + f.blocks
end_push first [] f = refl
end_push first (g ∷ gs) f = end_push (g.label.first + g.blocks) gs f

next_push : (volume : ℕ) (fs : List FoundVolume) (f : FoundVolume) → next_after volume (fs ++ f ∷ []) ≡ f.label.volume + 1
next_push volume [] f = refl
next_push volume (g ∷ gs) f = next_push (g.label.volume + 1) gs f

gaps_push : (first : ℕ) (fs : List FoundVolume) (f : FoundVolume)
    → gaps_in first (fs ++ f ∷ []) ≡ gaps_in first fs ++ gap_at (end_after first fs) (f.label.first - end_after first fs)
gaps_push first [] f = append-nil (gap_at first (f.label.first - first))
gaps_push first (g ∷ gs) f =
    let end = end_after (g.label.first + g.blocks) gs in
    ap (λ l. gap_at first (g.label.first - first) ++ l) (gaps_push (g.label.first + g.blocks) gs f)
    ∙ sym (append_assoc (gap_at first (g.label.first - first)) (gaps_in (g.label.first + g.blocks) gs) (gap_at end (f.label.first - end)))

-- one volume more, and the gap before it
pub spacing_push : (fs : List FoundVolume) (gaps more : List Gap) (end next : ℕ) (f : FoundVolume) (at number : ℕ) → at ≡ f.label.first → number ≡ f.label.volume
    → IsSpacing fs gaps end next → more ≡ gaps ++ gap_at end (at - end) → IsSpacing (fs ++ f ∷ []) more (at + f.blocks) (number + 1)
spacing_push fs gaps more end next f at number at_is number_is s is = record {
  gaps_are = is ∙ ap (λ n. gaps ++ gap_at end (n - end)) at_is ∙ ap (λ l. l ++ gap_at end (f.label.first - end)) s.gaps_are
      ∙ ap (λ n. gaps_in 0 fs ++ gap_at n (f.label.first - n)) s.end_is ∙ sym (gaps_push 0 fs f);
  end_is = ap (λ n. n + f.blocks) at_is ∙ sym (end_push 0 fs f);
  next_is = ap (λ n. n + 1) number_is ∙ sym (next_push 1 fs f);
}

pub one_dump_push : (reels : List (List ℕ)) (size : ℕ) (fs : List FoundVolume) (gaps : List Gap) (end next : ℕ) (f : FoundVolume) → AreOfOneDump reels size fs
    → IsSpacing fs gaps end next → next ≤ f.label.volume → end ≤ f.label.first → (f.block_bytes ≡ 0 → f.label.first ≡ end) → AreAlike fs f → IsOnReel reels f
    → AreOfOneDump reels f.block_bytes (fs ++ f ∷ [])
one_dump_push reels size [] gaps end next f one s number at sized alike on =
    (omega (arith, s.next_is), omega arith, label_is f.label f.label.volume f.label.first refl refl, refl, λ none. sized none ∙ s.end_is, on, tt)
one_dump_push reels size (g ∷ gs) gaps end next f one s number at sized alike on =
    let same = sym one.3 ∙ alike.1 in
    let spaced = subst (λ n. AreSpaced reels (id_of g.label) n 1 0 (g ∷ gs)) same one in
    let label = label_is f.label f.label.volume f.label.first refl refl ∙ ap (λ id. volume_label id f.label.volume f.label.first) (same_id g.label f.label alike.0) in
    spaced_push reels (id_of g.label) f.block_bytes 1 0 (g ∷ gs) f spaced (omega (arith, s.next_is)) (omega (arith, s.end_is)) label refl (λ none. sized none ∙ s.end_is) on

spaced_found : (reels : List (List ℕ)) (id : PlainId) (size volume first : ℕ) (fs : List FoundVolume) → AreSpaced reels id size volume first fs → All (IsOnReel reels) fs
spaced_found reels id size volume first [] s = All-nil (IsOnReel reels)
spaced_found reels id size volume first (f ∷ fs) s =
    All-cons (IsOnReel reels) f fs s.5 (spaced_found reels id size (f.label.volume + 1) (f.label.first + f.blocks) fs s.6)

one_dump_found : (reels : List (List ℕ)) (size : ℕ) (fs : List FoundVolume) → AreOfOneDump reels size fs → All (IsOnReel reels) fs
one_dump_found reels size [] one = All-nil (IsOnReel reels)
one_dump_found reels size (f ∷ fs) one = spaced_found reels (id_of f.label) size 1 0 (f ∷ fs) one

-- each reel of the volumes is one of the shelf
pub part_within : (reels : List (List ℕ)) (size : ℕ) (fs : List FoundVolume) (reel : ℕ) → AreOfOneDump reels size fs → IsReelOf fs reel → reel < length reels
part_within reels size fs reel one of = let on = All-contains (IsOnReel reels) fs of.0 (one_dump_found reels size fs one) of.1 in rw of.2 at on.1.0.0

-- the parts of the volumes that were found are what is there of a dump that is wanted
pub present : (reels : List (List ℕ)) (wanted : PlainWanted) (found volumes : List FoundVolume) (size : ℕ) → AreFound reels wanted (length reels) found
    → AreOfOneDump reels size volumes → All (λ f. IsAmong reels volumes f.reel) found → All (Contains found) volumes → ArePresent reels wanted size volumes
present reels wanted found volumes size are one among from = record {
  spaced = one;
  fits = All-weaker (Contains found) (λ f. Fits wanted (id_of f.label)) (λ f has. (All-contains (IsWantedVolume reels wanted) found f are.each has).0) volumes from;
  taken = All-weaker (Contains found) (λ f. IsTaken wanted.lines f.label (get_or reels f.reel []))
      (λ f has. (All-contains (IsWantedVolume reels wanted) found f are.each has).1) volumes from;
  only = λ number label size blocks has fits taken.
      (let (f, there, at) = are.every number label size blocks has.0 has fits taken in
      rw at at (All-contains (λ g. IsAmong reels volumes g.reel) found f among there));
}
