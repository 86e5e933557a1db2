-- A restore from the record files of a dump's counted volumes gives its payload.
use Rattle.std.proofs.Common.{◌≡◌, ℕ, zero, suc, ◌+◌, ◌≤◌, List, [], ◌∷◌, ◌++◌, length, get_or, take, drop, refl, sym, ap, subst, ◌∙◌, append_assoc, append-nil, length-append, length-take, length-drop, arith, take-add}
use Rattle.std.proofs.lemmas.List.{drop_more, take-append-le, take_all}
use Rattle.std.proofs.lemmas.List.Elements.{All-drop, All-take, Contains-append_right}
use Rattle.std.proofs.lemmas.List.Folds.{concat-append}
use Rattle.std.proofs.lemmas.Grind.{flat_map-append}
use Rattle.std.specs.List.{concat}
use Rattle.std.specs.Prelude.{All, Contains, map}
use Rattle.tape.proofs.Spelling.{spells_in}
use Rattle.tape.specs.RecordFile.{images_of}
use Rattle.tape.specs.Tape.PlainEntry.{Record, Mark}
use Rattle.dump_run.specs.Counts.{Covers, CoversFrom}
use Rattle.dump_run.specs.DumpId.{PlainId}
use Rattle.dump_run.specs.Label.{IsLabel, PlainLabel, label, label_of}
use Rattle.dump_run.specs.Run.{IsBlockSize, IsRun, PlainRun, id_of_run}
use Rattle.dump_run.specs.declared.count.VolumeCount.{VolumeCount}
use Rattle.volume_check.specs.Volume.{block_records, whole_volume}
use Rattle.restore.proofs.FoundMore.{same_label}
use Rattle.restore.proofs.Whole.{OneHolding, spelled, volume_entries}
use Rattle.restore.specs.Dumped.{AreTaken, AreThere, IsPayloadOf, IsThere}
use Rattle.restore.specs.Restored.{ArePlaces, Fits, IsRestored, IsTaken, Place, PlainWanted, blocks_in}
use Rattle.restore.specs.Volumes.{AreBlocks, HasVolume, IsVolumeFile, volume_label}

-- blocks of a payload as records
records_are : (payload : List (List ℕ)) (first count : ℕ) → first + count ≤ length payload
    → block_records payload first count ≡ map Record (take count (drop first payload))
records_are payload first zero within = refl
records_are payload first (suc count) within =
    let here = drop_more payload first [] (omega arith) in
    let next : suc first + count ≤ length payload = omega arith in
    let rest = records_are payload (suc first) count next in
    let one : first + 1 ≡ suc first = omega arith in
    rw (here, one) (ap (λ l. Record (get_or payload first []) ∷ l) rest)

-- the record files of equal blocks
same_records : (bs cs : List (List ℕ)) → map Record bs ++ Mark ∷ [] ≡ map Record cs ++ Mark ∷ [] → bs ≡ cs
same_records [] [] is = refl
same_records [] (c ∷ cs) is = cc
same_records (b ∷ bs) [] is = cc
same_records (b ∷ bs) (c ∷ cs) is = grind (arith, same_records bs cs (cc))

same_blocks : (bytes : List ℕ) (l m : PlainLabel) (s t : ℕ) (bs cs : List (List ℕ)) → IsVolumeFile bytes l s bs → IsVolumeFile bytes m t cs → bs ≡ cs
same_blocks bytes l m s t bs cs v w =
    let entries = spells_in bytes (volume_entries l bs) (spelled bytes l s bs v) ∙ sym (spells_in bytes (volume_entries m cs) (spelled bytes m t cs w)) in
    same_records bs cs (cc)

-- blocks of a run's size have one size
some_size : (size : ℕ) (blocks : List (List ℕ)) → IsBlockSize size → All (λ b. length b ≡ size) blocks → (s : ℕ) × AreBlocks s blocks
some_size size [] is sizes = (0, refl)
some_size size (b ∷ bs) is sizes = (size, (is, sizes))

-- a counted volume is a whole one
counted_file : (run : PlainRun) (payload : List (List ℕ)) (c : VolumeCount) → IsRun run → IsPayloadOf run payload → IsLabel (label_of run c.volume c.first)
    → c.first + c.count ≤ run.blocks
    → (s : ℕ) × IsVolumeFile (images_of (whole_volume run payload c.volume c.first c.count)) (label_of run c.volume c.first) s (take c.count (drop c.first payload))
counted_file run payload c is of lawful within =
    let blocks = take c.count (drop c.first payload) in
    let sizes = All-take (λ b. length b ≡ run.block_bytes) c.count (drop c.first payload) (All-drop (λ b. length b ≡ run.block_bytes) c.first payload of.sizes) in
    let (s, all) = some_size run.block_bytes blocks is.block_bytes sizes in
    let records = records_are payload c.first c.count (omega (arith, of.many)) in (
      s,
      record {
        is_label = lawful;
        sizes = all;
        few = omega (arith, is.blocks, of.many, length-take c.count (drop c.first payload), length-drop c.first payload);
        file = ap (λ r. images_of (Record (label run c.volume c.first) ∷ (r ++ Mark ∷ []))) records;
      },
    )

-- A place in the list: what is before it, and what is behind it.
pub record IsAt (reels : List (List ℕ)) (id : PlainId) (volume first : ℕ) (ps : List Place) (p : Place) : Type 0 where
  pub before : List Place
  pub behind : List Place
  pub list : ps ≡ before ++ p ∷ behind
  pub has : HasVolume reels p.reel (volume_label id (volume + length before) (first + length (blocks_in before))) p.size p.blocks

place_at : (reels : List (List ℕ)) (id : PlainId) (volume first : ℕ) (ps : List Place) (p : Place) → ArePlaces reels id volume first ps → Contains ps p
    → IsAt reels id volume first ps p
place_at reels id volume first [] p are (k, within, is) = absurd (omega arith)
place_at reels id volume first (q ∷ qs) p are (zero, within, is) =
    let number : volume + 0 ≡ volume = omega arith in
    let at : first + 0 ≡ first = omega arith in
    record { before = []; behind = qs; list = ap (λ r. r ∷ qs) is; has = rw (number, at, ← is) are.0 }
place_at reels id volume first (q ∷ qs) p are (suc k, within, is) =
    let rest = place_at reels id (volume + 1) (first + length q.blocks) qs p are.1 (k, omega arith, is) in
    let number : volume + suc (length rest.before) ≡ (volume + 1) + length rest.before = omega arith in
    let at : first + length (q.blocks ++ blocks_in rest.before) ≡ (first + length q.blocks) + length (blocks_in rest.before)
    = omega (arith, length-append q.blocks (blocks_in rest.before)) in
    record { before = q ∷ rest.before; behind = rest.behind; list = ap (λ l. q ∷ l) rest.list; has = rw (number, at) rest.has }

-- two fronts of one length are one
same_front : (a b x y : List Place) → a ++ x ≡ b ++ y → length a ≡ length b → (a ≡ b) × (x ≡ y)
same_front [] [] x y is long = (refl, is)
same_front [] (p ∷ ps) x y is long = absurd (omega arith)
same_front (p ∷ ps) [] x y is long = absurd (omega arith)
same_front (p ∷ ps) (q ∷ qs) x y is long = let rest = same_front ps qs x y (cc) (omega arith) in grind (arith, rest, is)

covers_within : (blocks volume first : ℕ) (cs : List VolumeCount) → CoversFrom blocks volume first cs → first ≤ blocks
covers_within blocks volume first [] covers = omega arith
covers_within blocks volume first (c ∷ cs) covers = let rest = covers_within blocks (volume + 1) (first + c.count) cs covers.2 in omega arith

module _ (one : OneHolding) (run : PlainRun) (payload : List (List ℕ)) (is : IsRun run) (of : IsPayloadOf run payload) (reels : List (List ℕ))
    (wanted : PlainWanted) (bytes : List ℕ) (fits : Fits wanted (id_of_run run)) (r : IsRestored reels wanted bytes) where
  -- the place of a counted volume
  pub record Found (c : VolumeCount) : Type 0 where
    pub place : Place
    pub before : List Place
    pub behind : List Place
    pub list : r.places ≡ before ++ place ∷ behind
    pub number : c.volume ≡ 1 + length before
    pub blocks_are : place.blocks ≡ take c.count (drop c.first payload)

  found : (c : VolumeCount) → IsLabel (label_of run c.volume c.first) → IsThere reels run payload c
      → IsTaken wanted.lines (label_of run c.volume c.first) (images_of (whole_volume run payload c.volume c.first c.count)) → c.first + c.count ≤ run.blocks → Found c
  found c lawful there taken within =
      let blocks = take c.count (drop c.first payload) in
      let label = label_of run c.volume c.first in
      let (s, v) = counted_file run payload c is of lawful within in
      let file = subst (λ b. IsVolumeFile b label s blocks) (sym there.2) v in
      let (p, among, same) = r.only there.0 label s blocks (there.1, file) fits (subst (λ b. IsTaken wanted.lines label b) (sym there.2) taken) in
      let at = place_at reels r.id 1 0 r.places p r.placed among in
      let w = rw same at at.has.1 in
      let labels = same_label one (get_or reels there.0 []) label _ s p.size blocks p.blocks file w in
      record {
        place = p;
        before = at.before;
        behind = at.behind;
        list = at.list;
        number = ap (λ (l : PlainLabel). l.volume) labels;
        blocks_are = sym (same_blocks (get_or reels there.0 []) label _ s p.size blocks p.blocks file w);
      }

  walk : (cs : List VolumeCount) (before ps : List Place) (volume first : ℕ) → r.places ≡ before ++ ps → volume ≡ 1 + length before
      → blocks_in before ≡ take first payload → CoversFrom run.blocks volume first cs → AreThere reels run payload cs → AreTaken wanted.lines run payload cs
      → (rest : List (List ℕ)) × (blocks_in r.places ≡ payload ++ rest)
  walk [] before ps volume first list number blocks covers there taken =
      let all : take first payload ≡ payload = take_all first payload (omega (arith, of.many)) in
      (blocks_in ps, ap blocks_in list ∙ flat_map-append (λ (p : Place). p.blocks) before ps ∙ ap (λ l. l ++ blocks_in ps) (blocks ∙ all))
  walk (c ∷ cs) before ps volume first list number blocks covers there taken =
      let within = covers_within run.blocks (volume + 1) (first + c.count) cs covers.2 in
      let mine = there c (0, omega arith, refl) in
      let f = found c mine.0 mine.1 (taken c (0, omega arith, refl)) (omega (arith, covers.1)) in
      let front = same_front before f.before ps (f.place ∷ f.behind) (sym list ∙ f.list) (omega (arith, f.number, covers.0)) in
      let more = before ++ f.place ∷ [] in
      let one_more : blocks_in more ≡ take (first + c.count) payload
      = flat_map-append (λ (p : Place). p.blocks) before (f.place ∷ []) ∙ ap (λ l. blocks_in before ++ l) (append-nil f.place.blocks)
      ∙ ap (λ l. l ++ f.place.blocks) blocks ∙ ap (λ l. take first payload ++ l) (f.blocks_are ∙ ap (λ n. take c.count (drop n payload)) covers.1)
      ∙ sym (take-add first c.count payload) in
      walk cs more f.behind (volume + 1) (first + c.count)
      (list ∙ ap (λ l. before ++ l) front.1 ∙ sym (append_assoc before (f.place ∷ []) f.behind)) (omega (arith, number, length-append before (f.place ∷ [])))
      one_more covers.2 (λ d has. there d (Contains-append_right (c ∷ []) cs d has))
      (λ d has. taken d (Contains-append_right (c ∷ []) cs d has))

  pub comes_back : (counts : List VolumeCount) → Covers run counts → AreThere reels run payload counts → AreTaken wanted.lines run payload counts → wanted.length ≤ length (concat payload)
      → bytes ≡ take wanted.length (concat payload)
  comes_back counts covers there taken short =
      let (rest, all) = walk counts [] r.places 1 0 refl refl refl covers.1 there taken in
      r.bytes_are ∙ ap (λ l. take wanted.length (concat l)) all ∙ ap (take wanted.length) (concat-append payload rest)
      ∙ take-append-le wanted.length (concat payload) (concat rest) short
