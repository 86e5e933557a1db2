-- The volumes of a dump that is wanted, and its payload.
use Rattle.std.proofs.Common.{◌≡◌, ◌≢◌, ◌⊎◌, inl, inr, ℕ, zero, suc, ◌+◌, List, [], ◌∷◌, ◌++◌, length, get_or, take, refl, sym, ap, subst, ◌∙◌, length-append, arith}
use Rattle.std.proofs.lemmas.List.Elements.{All-append, All-contains, All-contains_itself, All-head, All-nil, All-push, All-tail, All-weaker, Contains-append_right, Contains-push_cases}
use Rattle.std.proofs.lemmas.List.Sorted.{All-permutation, Contains-permutation, IsPermutation-sym}
use Rattle.std.proofs.lemmas.List.Sums.{sum_by-cons}
use Rattle.std.specs.List.{concat}
use Rattle.std.specs.Prelude.{All, Contains, IfSome, IsPermutation, Option}
use Rattle.dump_run.specs.DumpId.{PlainId}
use Rattle.dump_run.specs.Label.{id_of}
use Rattle.restore.proofs.Blocks.{one_size}
use Rattle.restore.proofs.ChainMore.{IsOnReel, among_still}
use Rattle.restore.specs.Chain.{AreLinked, IsAmong, IsChain, IsChosen, IsComplete, block_count}
use Rattle.restore.specs.Found.{AreFound, IsWantedVolume}
use Rattle.catalog.specs.declared.line.CatalogLine.{CatalogLine}
use Rattle.restore.specs.Restored.{ArePlaces, AreTakenPlaces, Fits, IsLengthOf, IsRestored, IsTaken, Place, PlainWanted, blocks_in}
use Rattle.restore.specs.Volumes.{HasVolume}
use Rattle.restore.specs.Written.{AreTheBlocks}
use Rattle.restore.specs.declared.volume.FoundVolume.{FoundVolume}

-- the volumes are as they were, or with one more
abbrev Grown : List FoundVolume → List FoundVolume → FoundVolume → Type 0
Grown old new f = (new ≡ old) ⊎ (new ≡ old ++ f ∷ [])

grown_among : (reels : List (List ℕ)) (old new : List FoundVolume) (f : FoundVolume) (reel : ℕ) → Grown old new f → IsAmong reels old reel → IsAmong reels new reel
grown_among reels old new f reel grown among = elim grown [ inl e ↦ rw e among | inr e ↦ rw e (among_still reels old f reel among) ]

pub grown_all : (P : FoundVolume → Type 0) (old new : List FoundVolume) (f : FoundVolume) → Grown old new f → All P old → P f → All P new
grown_all P old new f grown all has = elim grown [ inl e ↦ rw e all | inr e ↦ rw e (All-push P old f all has) ]

-- each volume is left, or its reel is among those of the chain
abbrev pub IsDone : List (List ℕ) → List FoundVolume → List FoundVolume → FoundVolume → Type 0
IsDone reels left chain f = Contains left f ⊎ IsAmong reels chain f.reel

pub still_done : (reels : List (List ℕ)) (left rest old new : List FoundVolume) (v f : FoundVolume) → left ≡ rest ++ v ∷ [] → Grown old new v
    → IsAmong reels new v.reel → IsDone reels left old f → IsDone reels rest new f
still_done reels left rest old new v f is grown here done =
    elim done [
      | inl has ↦ elim (Contains-push_cases rest v f (rw is at has)) [ inl before ↦ inl before | inr e ↦ inr (subst (λ (g : FoundVolume). IsAmong reels new g.reel) e here) ]
      | inr among ↦ inr (grown_among reels old new v f.reel grown among)
    ]

-- nothing is left
pub none_left : (left : List FoundVolume) (f : FoundVolume) → length left ≡ 0 → Contains left f → ⊥
none_left left f none has = omega (arith, has.1)

pub all_among : (reels : List (List ℕ)) (found sorted chain : List FoundVolume) → IsPermutation found sorted
    → ((f : FoundVolume) → Contains sorted f → IsAmong reels chain f.reel) → All (λ f. IsAmong reels chain f.reel) found
all_among reels found sorted chain same each =
    All-weaker (Contains found) (λ f. IsAmong reels chain f.reel) (λ f has. each f (Contains-permutation found sorted f same has)) found (All-contains_itself found)

pub all_from : (found sorted chain : List FoundVolume) → IsPermutation found sorted → All (Contains sorted) chain → All (Contains found) chain
all_from found sorted chain same all =
    All-weaker (Contains sorted) (Contains found) (λ f has. Contains-permutation sorted found f (IsPermutation-sym found sorted same) has) chain all

-- a volume that was found is on its reel
pub one_on_reel : (reels : List (List ℕ)) (found sorted : List FoundVolume) (f : FoundVolume) → IsPermutation found sorted → All (IsOnReel reels) found → Contains sorted f
    → IsOnReel reels f
one_on_reel reels found sorted f same all has = All-contains (IsOnReel reels) sorted f (All-permutation (IsOnReel reels) found sorted same all) has

chain_end : (reels : List (List ℕ)) (fs : List FoundVolume) (end : ℕ) → IsChain reels fs end → end ≡ block_count fs
chain_end reels [] end chain = chain
chain_end reels (f ∷ fs) end chain = chain.1

-- the chain of the volumes that were found is that of a dump that is wanted
pub chosen : (reels : List (List ℕ)) (wanted : PlainWanted) (found volumes : List FoundVolume) (end : ℕ) → AreFound reels wanted (length reels) found
    → IsChain reels volumes end → All (λ f. IsAmong reels volumes f.reel) found → All (Contains found) volumes → IsComplete wanted.length end volumes
    → IfSome wanted.volumes (λ count. length volumes ≡ count) → IsChosen reels wanted volumes
chosen reels wanted found volumes end are chain among from complete many =
    let is = chain_end reels volumes end chain in
    record {
      chain = rw is at chain;
      complete = rw is at complete;
      many = many;
      fits = All-weaker (Contains found) (λ f. Fits wanted (id_of f.label)) (λ f has. (All-contains (IsWantedVolume reels wanted) found f are.each has).0) volumes from;
      taken = All-weaker (Contains found) (λ f. IsTaken wanted.lines f.label (get_or reels f.reel []))
          (λ f has. (All-contains (IsWantedVolume reels wanted) found f are.each has).1) volumes from;
      only = λ number label size blocks has fits taken.
          (let (f, there, at) = are.every number label size blocks has.0 has fits taken in
          rw at at (All-contains (λ g. IsAmong reels volumes g.reel) found f among there));
    }

-- the places of linked volumes
module _ (reels : List (List ℕ)) (id : PlainId) (size : ℕ) where
  places : (volume first : ℕ) (fs : List FoundVolume) → AreLinked reels id size volume first fs → List Place
  places volume first [] linked = []
  places volume first (f ∷ fs) linked =
      record { reel = f.reel; size = f.block_bytes; blocks = linked.2.0 } ∷ places (volume + 1) (first + f.blocks) fs linked.3

  are_places : (volume first : ℕ) (fs : List FoundVolume) (linked : AreLinked reels id size volume first fs) → ArePlaces reels id volume first (places volume first fs linked)
  unfolding places
  are_places volume first [] linked = tt
  are_places volume first (f ∷ fs) linked =
      let count : f.blocks ≡ length linked.2.0 = linked.2.1.1 in
      let rest = are_places (volume + 1) (first + f.blocks) fs linked.3 in (
        subst (λ l. HasVolume reels f.reel l f.block_bytes linked.2.0) linked.0 linked.2.1.0,
        subst (λ n. ArePlaces reels id (volume + 1) n (places (volume + 1) (first + f.blocks) fs linked.3)) (ap (λ n. first + n) count) rest,
      )

  taken_places : (lines : Option (List CatalogLine)) (volume first : ℕ) (fs : List FoundVolume) (linked : AreLinked reels id size volume first fs)
      → All (λ f. IsTaken lines f.label (get_or reels f.reel [])) fs → AreTakenPlaces reels lines id volume first (places volume first fs linked)
  unfolding places
  taken_places lines volume first [] linked all = tt
  taken_places lines volume first (f ∷ fs) linked all =
      let P : FoundVolume → Type 0 = λ g. IsTaken lines g.label (get_or reels g.reel []) in
      let count : f.blocks ≡ length linked.2.0 = linked.2.1.1 in
      let rest = taken_places lines (volume + 1) (first + f.blocks) fs linked.3 (All-tail P f fs all) in (
        subst (λ l. IsTaken lines l (get_or reels f.reel [])) linked.0 (All-head P f fs all),
        subst (λ n. AreTakenPlaces reels lines id (volume + 1) n (places (volume + 1) (first + f.blocks) fs linked.3)) (ap (λ n. first + n) count) rest,
      )

  as_many : (volume first : ℕ) (fs : List FoundVolume) (linked : AreLinked reels id size volume first fs) → length (places volume first fs linked) ≡ length fs
  unfolding places
  as_many volume first [] linked = refl
  as_many volume first (f ∷ fs) linked = ap suc (as_many (volume + 1) (first + f.blocks) fs linked.3)

  the_blocks : (volume first : ℕ) (fs : List FoundVolume) (linked : AreLinked reels id size volume first fs)
      → AreTheBlocks reels fs (blocks_in (places volume first fs linked))
  unfolding places
  the_blocks volume first [] linked = refl
  the_blocks volume first (f ∷ fs) linked =
      (linked.2.0, blocks_in (places (volume + 1) (first + f.blocks) fs linked.3), refl, linked.2.1, the_blocks (volume + 1) (first + f.blocks) fs linked.3)

  sizes : (volume first : ℕ) (fs : List FoundVolume) (linked : AreLinked reels id size volume first fs)
      → All (λ block. length block ≡ size) (blocks_in (places volume first fs linked))
  unfolding places
  sizes volume first [] linked = All-nil (λ block. length block ≡ size)
  sizes volume first (f ∷ fs) linked =
      All-append (λ block. length block ≡ size) linked.2.0 (blocks_in (places (volume + 1) (first + f.blocks) fs linked.3))
      (one_size size linked.2.0 (rw linked.1 at linked.2.1.0.1.sizes)) (sizes (volume + 1) (first + f.blocks) fs linked.3)

  many : (volume first : ℕ) (fs : List FoundVolume) (linked : AreLinked reels id size volume first fs) → length (blocks_in (places volume first fs linked)) ≡ block_count fs
  unfolding places
  many volume first [] linked = refl
  many volume first (f ∷ fs) linked =
      let rest = blocks_in (places (volume + 1) (first + f.blocks) fs linked.3) in
      let count : f.blocks ≡ length linked.2.0 = linked.2.1.1 in
      omega (arith, length-append linked.2.0 rest, sum_by-cons (λ (h : FoundVolume). h.blocks) f fs, many (volume + 1) (first + f.blocks) fs linked.3)

  -- each volume has a place
  placed : (volume first : ℕ) (fs : List FoundVolume) (linked : AreLinked reels id size volume first fs) (f : FoundVolume) → Contains fs f
      → (p : Place) × Contains (places volume first fs linked) p × (p.reel ≡ f.reel)
  unfolding places
  placed volume first [] linked f has = absurd (none_left [] f refl has)
  placed volume first (g ∷ gs) linked f (zero, within, is) =
      let rest = places (volume + 1) (first + g.blocks) gs linked.3 in
      let p : Place = record { reel = g.reel; size = g.block_bytes; blocks = linked.2.0 } in
      let there : Contains (p ∷ rest) p = (0, omega arith, refl) in (p, there, ap (λ (h : FoundVolume). h.reel) is)
  placed volume first (g ∷ gs) linked f (suc k, within, is) =
      let rest = places (volume + 1) (first + g.blocks) gs linked.3 in
      let p : Place = record { reel = g.reel; size = g.block_bytes; blocks = linked.2.0 } in
      let (q, there, at) = placed (volume + 1) (first + g.blocks) gs linked.3 f (k, omega arith, is) in
      (q, Contains-append_right (p ∷ []) rest q there, at)

-- The payload of the dump that was chosen: its blocks are those of the volumes, and it is what is restored.
pub payload_of : (reels : List (List ℕ)) (wanted : PlainWanted) (volumes : List FoundVolume) → IsChosen reels wanted volumes
    → (payload : List (List ℕ)) × AreTheBlocks reels volumes payload × IsRestored reels wanted (take wanted.length (concat payload))
unfolding places
payload_of reels wanted [] chosen = absurd chosen.complete
payload_of reels wanted (f ∷ fs) chosen =
    let id = id_of f.label in
    let size = f.block_bytes in
    let linked = chosen.chain.0 in
    let all = places reels id size 1 0 (f ∷ fs) linked in (
      blocks_in all,
      the_blocks reels id size 1 0 (f ∷ fs) linked,
      record {
        id = id;
        size = size;
        places = all;
        fits = All-head (λ g. Fits wanted (id_of g.label)) f fs chosen.fits;
        some = some_places;
        placed = are_places reels id size 1 0 (f ∷ fs) linked;
        many = subst (λ n. IfSome wanted.volumes (λ count. n ≡ count)) (sym (as_many reels id size 1 0 (f ∷ fs) linked)) chosen.many;
        taken = taken_places reels id size wanted.lines 1 0 (f ∷ fs) linked chosen.taken;
        sizes = sizes reels id size 1 0 (f ∷ fs) linked;
        ends = subst (IsLengthOf wanted.length size) (sym (many reels id size 1 0 (f ∷ fs) linked)) chosen.complete;
        only = λ number label size blocks has fits taken.
            (let (g, there, is) = chosen.only number label size blocks has fits taken in
            let (p, here, at) = placed reels id f.block_bytes 1 0 (f ∷ fs) linked g there in
            (p, here, ap (λ n. get_or reels n []) at ∙ is));
        bytes_are = refl;
      },
    )
  where
    some_places : places reels (id_of f.label) f.block_bytes 1 0 (f ∷ fs) chosen.chain.0 ≢ []
    some_places is = cc
