-- One block more, and one entry more.
use Rattle.volume_check.proofs.Words.{◌≡◌, ◌≢◌, ℕ, ◌+◌, ◌≤◌, List, [], ◌∷◌, ◌++◌, length, refl, sym, ap, ◌∙◌, append-nil, length-append, arith}
use Rattle.volume_check.proofs.Words.{map-append, length-map, All-append, All-nil, All-cons, All-head, All-tail, map, All, PlainEntry, marks_met}
use Rattle.volume_check.proofs.Words.{mark_count, Record, PlainLabel, label_record, IsVolume, HasTwoLengths, record_count, record_total, VolumeEnd}
use Rattle.std.proofs.lemmas.List.Sums.{sum_by-append, sum_by-le}
use Rattle.volume_check.specs.declared.holding.VolumeEnd.TheVariants.{NoMark}

-- there are no more blocks than entries
pub count_bound : (l : PlainLabel) (count size : ℕ) (end : VolumeEnd) (entries : List PlainEntry) → IsVolume l count size end entries
    → count ≤ length entries
count_bound l count size end entries v =
    omega (arith, v.counted, ap length v.whole, length-append (map Record v.blocks) v.rest, length-map v.blocks Record)

-- before a mark the entries are the label and the blocks
ended : (l : PlainLabel) (count size : ℕ) (entries : List PlainEntry) (v : IsVolume l count size NoMark entries)
    → entries ≡ Record (label_record l) ∷ map Record v.blocks
ended l count size entries v = v.whole ∙ rw (v.end_is, append-nil (map Record v.blocks)) refl

-- blocks of one length, of which there is none or that is the length of the next, have that length with the next
sizes_more : (size : ℕ) (blocks : List (List ℕ)) (block : List ℕ) → All (λ b. length b ≡ size) blocks → (length blocks ≢ 0 → size ≡ length block)
    → All (λ b. length b ≡ length block) (blocks ++ block ∷ [])
sizes_more size blocks block sizes same =
    All-append (λ b. length b ≡ length block) blocks (block ∷ []) (λ k d within. sizes k d within ∙ same (λ none. omega arith))
    (All-cons (λ b. length b ≡ length block) block [] refl (All-nil (λ b. length b ≡ length block)))

-- one block more
pub block_more : (l : PlainLabel) (count more size len : ℕ) (end : VolumeEnd) (block : List ℕ) (entries : List PlainEntry) → end ≡ NoMark
    → len ≡ length block
    → (count ≢ 0 → size ≡ len) → more ≡ count + 1 → IsVolume l count size end entries → IsVolume l more len end (entries ++ Record block ∷ [])
block_more l count more size len end block entries none len_is same more_is w =
    let v = rw none at w in rw (none, len_is) (record {
      blocks = v.blocks ++ block ∷ [];
      rest = [];
      whole = rw (ended l count size entries v, map-append Record v.blocks (block ∷ [])) (rw append-nil refl);
      label = v.label;
      counted = omega (arith, v.counted, length-append v.blocks (block ∷ []));
      sizes = sizes_more size v.blocks block v.sizes (λ some. same (λ zero. some (sym v.counted ∙ zero)) ∙ len_is);
      none = λ is. absurd (omega (arith, ap length is, length-append v.blocks (block ∷ [])));
      end_is = refl;
    })

-- a block of another length
pub block_other : (l : PlainLabel) (count size : ℕ) (end : VolumeEnd) (block : List ℕ) (entries : List PlainEntry) → end ≡ NoMark
    → count ≢ 0 → size ≢ length block → IsVolume l count size end entries → HasTwoLengths (entries ++ Record block ∷ [])
block_other l count size end block entries none some other w = let v = rw none at w in
    with_other v.blocks (ended l count size entries v) (λ is. some (v.counted ∙ ap length is)) v.sizes
  where
    with_other : (blocks : List (List ℕ)) → entries ≡ Record (label_record l) ∷ map Record blocks → blocks ≢ [] → All (λ b. length b ≡ size) blocks
        → HasTwoLengths (entries ++ Record block ∷ [])
    with_other [] whole filled sizes = absurd (filled refl)
    with_other (b ∷ bs) whole filled sizes = let first = All-head (λ x. length x ≡ size) b bs sizes in record {
      label = l;
      first = b;
      blocks = bs;
      other = block;
      rest = [];
      whole = rw whole refl;
      is_label = w.label;
      same = rw first (All-tail (λ x. length x ≡ size) b bs sizes);
      differs = λ is. other (sym (is ∙ first));
    }

-- one entry more is counted
pub records_more : (entries : List PlainEntry) (next : PlainEntry) → record_total (entries ++ next ∷ []) ≡ record_total entries + record_count next
records_more entries next = omega (arith, sum_by-append record_count entries (next ∷ []))

pub marks_more : (entries : List PlainEntry) (next : PlainEntry) → marks_met (entries ++ next ∷ []) ≡ marks_met entries + mark_count next
marks_more entries next = omega (arith, sum_by-append mark_count entries (next ∷ []))

-- an entry is one record or one mark, so there are no more records than entries, nor marks
one_entry : (e : PlainEntry) → (record_count e ≤ 1) × (mark_count e ≤ 1)
one_entry e = grind arith

pub records_bound : (entries : List PlainEntry) → record_total entries ≤ length entries
records_bound entries = omega (arith, sum_by-le record_count 1 entries (λ k d within. (one_entry _).0))

pub marks_bound : (entries : List PlainEntry) → marks_met entries ≤ length entries
marks_bound entries = omega (arith, sum_by-le mark_count 1 entries (λ k d within. (one_entry _).1))
