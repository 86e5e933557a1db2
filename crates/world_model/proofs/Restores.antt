-- A restore from the record files of a dump's counted reels gives the payload of the dump.
use Rattle.world_model.proofs.Basics.{◌≡◌, ℕ, zero, suc, ◌+◌, ◌<◌, ◌≤◌, List, [], ◌∷◌, length, take, Contains, None, Some, sym, ap, subst, ◌∙◌, inl, inr, arith, same_Some}
use Rattle.world_model.proofs.Terms.{AreVolumes, Begun, Count, Covers, IsGood, IsRun, IsWorldKept, PlainRun, VolumeCount, World, numbered, whole_volume}
use Rattle.std.specs.List.{concat}
use Rattle.std.proofs.lemmas.List.{get_or_default}
use Rattle.std.proofs.lemmas.List.Elements.{All-from_get_or}
use Rattle.tape.specs.RecordFile.{images_of}
use Rattle.dump_run.specs.Label.{IsLabel, label_of}
use Rattle.dump_run.specs.Run.{blocks_limit, id_of_run}
use Rattle.catalog.specs.declared.line.CatalogLine.{CatalogLine}
use Rattle.restore.specs.Dumped.{AreKnown, AreThere, IsPayloadOf, IsThere}
use Rattle.restore.specs.Restored.{Fits, IsRestored, PlainWanted}
use Rattle.world_model.proofs.Staying.{reels_counted}
use Rattle.world_model.specs.Restores.{DumpsComeBack, IsCountOnShelf, IsKnown}

-- The number and the first block of each volume of a run are within the limits of a label: each volume has a block, unless the run has none.
label_fits : (run : PlainRun) (volume first : ℕ) (cs : List VolumeCount) → IsRun run → 1 ≤ volume → volume ≤ first + 1 → AreVolumes run volume first cs
    → (c : VolumeCount) → Contains cs c → IsLabel (label_of run c.volume c.first)
label_fits run volume first [] is low high are c (k, within, at) = absurd (omega arith)
label_fits run volume first (v ∷ vs) is low high are c (zero, within, at) =
    let most : volume ≤ blocks_limit = elim (are.2.1) [
      | inl some ↦ omega (arith, some, high, are.2.0, is.blocks)
      | inr none ↦ omega (arith, none, high, are.2.0, is.blocks)
    ] in
    let its : IsLabel (label_of run v.volume v.first) = record {
      name = is.name;
      level = is.level;
      date = is.date;
      since = is.since;
      volume = (omega (arith, low, are.0), omega (arith, most, are.0));
      first = omega (arith, are.1, are.2.0, is.blocks);
    } in
    subst (λ (z : VolumeCount). IsLabel (label_of run z.volume z.first)) at its
label_fits run volume first (v ∷ vs) is low high are c (suc k, within, at) = elim (are.3) [
  | inl last ↦ absurd (omega (arith, within, ap length last))
  | inr more ↦ label_fits run (volume + 1) (first + v.count) vs is (omega arith) (next more) are.4 c (k, omega (arith, within), at)
]
  where
    next : first + v.count < run.blocks → volume + 1 ≤ (first + v.count) + 1
    next more = elim (are.2.1) [
      | inl some ↦ omega (arith, some, high)
      | inr none ↦ absurd (omega (arith, none, more))
    ]

-- the payload of a run that was begun
payload_of : (b : Begun) → IsGood b → IsPayloadOf b.run b.payload
payload_of b good = record {
  many = good.many;
  sizes = All-from_get_or (λ block. length block ≡ b.run.block_bytes) b.payload [] (λ i within. good.whole i (omega (arith, within, good.many)));
}

-- The law of restores without a catalog, and with one.
abbrev pub FromReels : Type 0
FromReels =
    (run : PlainRun) (payload : List (List ℕ)) (counts : List VolumeCount) (reels : List (List ℕ)) (wanted : PlainWanted) (bytes : List ℕ)
    → wanted.lines ≡ None → IsRun run → IsPayloadOf run payload → Covers run counts → AreThere reels run payload counts → Fits wanted (id_of_run run)
    → wanted.length ≤ length (concat payload) → IsRestored reels wanted bytes → bytes ≡ take wanted.length (concat payload)

abbrev pub FromCatalog : Type 0
FromCatalog =
    (run : PlainRun) (payload : List (List ℕ)) (counts : List VolumeCount) (reels : List (List ℕ)) (wanted : PlainWanted) (bytes : List ℕ)
    (lines : List CatalogLine) → wanted.lines ≡ Some lines → AreKnown lines run payload counts → IsRun run → IsPayloadOf run payload → Covers run counts
    → AreThere reels run payload counts → Fits wanted (id_of_run run) → wanted.length ≤ length (concat payload) → IsRestored reels wanted bytes
    → bytes ≡ take wanted.length (concat payload)

-- Both in one.
abbrev pub Restoring : Type 0
Restoring =
    (run : PlainRun) (payload : List (List ℕ)) (counts : List VolumeCount) (reels : List (List ℕ)) (wanted : PlainWanted) (bytes : List ℕ)
    → IsKnown wanted run payload counts → IsRun run
    → IsPayloadOf run payload → Covers run counts → AreThere reels run payload counts → Fits wanted (id_of_run run) → wanted.length ≤ length (concat payload)
    → IsRestored reels wanted bytes → bytes ≡ take wanted.length (concat payload)

pub restoring : FromReels → FromCatalog → Restoring
restoring reels_law catalog_law run payload counts reels wanted bytes (inl none) good its covers there fits short restored =
    reels_law run payload counts reels wanted bytes none good its covers there fits short restored
restoring reels_law catalog_law run payload counts reels wanted bytes (inr (lines, is, known)) good its covers there fits short restored =
    catalog_law run payload counts reels wanted bytes lines is known good its covers there fits short restored

-- a counted volume whose reel is on the shelf
there_on : (w : World) → IsWorldKept w → (run : ℕ) (b : Begun) → numbered w.begun run ≡ Some b → (v : VolumeCount) (reels : List (List ℕ)) (x : Count)
    → IsCountOnShelf w run v reels x → IsThere reels b.run b.payload v
there_on w kept run b begun v reels x on =
    let r = reels_counted w kept x on.counted in
    let same : r.begun ≡ b = same_Some r.begun b (sym r.begun_as ∙ ap (numbered w.begun) on.run_is ∙ begun) in
    let (entries, holds, lies) = on.on_shelf in
    let (place, within, at) = lies in
    let whole : entries ≡ whole_volume r.begun.run r.begun.payload x.volume x.first x.count = (r.whole on.not_reopened).1 entries holds in
    let its : entries ≡ whole_volume b.run b.payload x.volume x.first x.count
    = subst (λ (d : Begun). entries ≡ whole_volume d.run d.payload x.volume x.first x.count) same whole in
    let listed : entries ≡ whole_volume b.run b.payload v.volume v.first v.count
    = subst (λ (z : VolumeCount). entries ≡ whole_volume b.run b.payload z.volume z.first z.count) on.volume_is its in
    (place, within, get_or_default reels place [] (images_of entries) within ∙ at ∙ ap images_of listed)

pub dumps_come_back : Restoring → (w : World) → IsWorldKept w → DumpsComeBack w
dumps_come_back law w kept e b reels wanted bytes among begun shelf known fits short restored =
    let (x, at, covers, volumes, counted) = kept.booked.earned e among in
    let same : x ≡ b = same_Some x b (sym at ∙ begun) in
    let good = kept.told.good e.run b begun in
    let covers_it : Covers b.run e.listed = subst (λ (d : Begun). Covers d.run e.listed) same covers in
    let in_order : AreVolumes b.run 1 0 e.listed = subst (λ (d : Begun). AreVolumes d.run 1 0 e.listed) same volumes in
    law b.run b.payload e.listed reels wanted bytes known good.run (payload_of b good) covers_it
    (λ v has. (
      label_fits b.run 1 0 e.listed good.run (omega arith) (omega arith) in_order v has,
      (let (y, on) = shelf v has in there_on w kept e.run b begun v reels y on),
    )) fits short restored
