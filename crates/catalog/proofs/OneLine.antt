-- The text of a line is that of no other.
use Rattle.std.proofs.Common.{◌≡◌, ◌≢◌, ◌⊎◌, ℕ, ◌+◌, ◌*◌, ◌<◌, ◌^◌, List, [], ◌∷◌, ◌++◌, codes, length, length-append, get_or, decimal, rules, Option, Some, refl, sym, ap, ◌∙◌, append_assoc, arith, inl, inr}
use Rattle.std.proofs.lemmas.Fmt.{decimal_injective}
use Rattle.std.specs.Prelude.{option_map, unwrap_or}
use Rattle.hex.specs.Hex.{encode_lower, lower_digits}
use Rattle.hex.proofs.HexLemmas.{length-encode_with}
use Rattle.dump_run.specs.DumpId.{PlainId, IsDumpId, plain_id}
use Rattle.dump_run.proofs.FieldCut.{lacks_each, one_cut, same_rest}
use Rattle.catalog.specs.DumpLines.{PlainBegun, PlainFinished, IsBegun, IsFinished, id_text, begun_text, finished_text, plain_begun, plain_finished}
use Rattle.catalog.specs.Line.{IsLine, line_text}
use Rattle.catalog.specs.Reading.{ReadsBegun, ReadsFinished, ReadsVolume}
use Rattle.catalog.specs.SumLine.{PlainSumLine, IsSum, IsSumLine, numbered, sum_line}
use Rattle.catalog.specs.declared.line.CatalogLine.{CatalogLine}
use Rattle.catalog.specs.declared.line.CatalogLine.TheVariants.{Begun, Volume, Finished}
use Rattle.catalog.proofs.LineText.{by_fields, cut_text, lacks_number, name_lacks, one_line as one_volume, shorter as shorter_volume, sum_lacks}

-- a number is cut off in one way
next_number : (word : List ℕ) (n m end : ℕ) (x y : List ℕ) → (end < 48) ⊎ (57 < end) → n < 2 ^ 64 → m < 2 ^ 64
    → word ++ (decimal n ++ end ∷ x) ≡ word ++ (decimal m ++ end ∷ y) → (n ≡ m) × (x ≡ y)
next_number word n m end x y no_digit few small is =
    let cut = one_cut end (decimal n) (decimal m) x y (lacks_number end n no_digit few) (lacks_number end m no_digit small)
    (same_rest word (decimal n ++ end ∷ x) (decimal m ++ end ∷ y) is) in
    (decimal_injective n m few small cut.0, cut.1)

-- the numbers of a dump are those of a u64
pub record IsSmallId (d : PlainId) : Type 0 where
  pub level : d.level < 2 ^ 64
  pub date : d.date < 2 ^ 64
  pub since : d.since < 2 ^ 64

pub small_id : (d : PlainId) → IsDumpId d → IsSmallId d
small_id d its = grind (arith, its)

same_id : (d e : PlainId) → d.name ≡ e.name → d.level ≡ e.level → d.date ≡ e.date → d.since ≡ e.since → d ≡ e
same_id d e name level date since =
    let by_parts = λ (k : PlainId). plain_id k.name k.level k.date k.since in let same : by_parts d ≡ by_parts e = cc in same

-- the text of a dump, field by field, with other bytes after it
abbrev pub id_then : PlainId → List ℕ → List ℕ
id_then d x = d.name ++ numbered (codes " level ") d.level (numbered (codes " date ") d.date (numbered (codes " since ") d.since x))

pub id_cut : (d : PlainId) (x : List ℕ) → id_text d ++ x ≡ id_then d x
id_cut d x = simp append_assoc

-- the text of a dump is cut off in one way
one_id : (d e : PlainId) (x y : List ℕ) → IsDumpId d → IsDumpId e → id_then d (58 ∷ x) ≡ id_then e (58 ∷ y) → (d ≡ e) × (x ≡ y)
one_id d e x y good its is =
    let few = small_id d good in let low = small_id e its in
    let name = one_cut 32 d.name e.name _ _ (name_lacks d.name good.name) (name_lacks e.name its.name) is in
    let level = next_number (codes "level ") d.level e.level 32 _ _ (inl (omega arith)) few.level low.level name.1 in
    let date = next_number (codes "date ") d.date e.date 32 _ _ (inl (omega arith)) few.date low.date level.1 in
    let since = next_number (codes "since ") d.since e.since 58 _ _ (inr (omega arith)) few.since low.since date.1 in
    (same_id d e name.0 level.0 date.0 since.0, since.1)

-- the text of a dump that begins, with other bytes after it
pub begun_cut : (b : PlainBegun) (x : List ℕ) → begun_text b ++ x ≡ codes "begun     " ++ id_then b.id (58 ∷ (codes " " ++ (decimal b.bytes ++ 32 ∷ (codes "bytes\n" ++ x))))
begun_cut b x = simp append_assoc

pub finished_cut : (f : PlainFinished) (x : List ℕ) → finished_text f ++ x ≡ codes "finished  "
    ++ id_then f.id (58 ∷ (codes " " ++ (decimal f.volumes ++ 32 ∷ (codes "volumes, " ++ (decimal f.blocks ++ 32 ∷ (codes "blocks of " ++ (decimal f.block_bytes ++ 32 ∷ (codes "bytes, " ++ (decimal f.bytes ++ 32 ∷ (codes "bytes\n" ++ x))))))))))
finished_cut f x = simp append_assoc

one_begun : (b c : PlainBegun) (x y : List ℕ) → IsBegun b → IsBegun c → begun_text b ++ x ≡ begun_text c ++ y → (b ≡ c) × (x ≡ y)
one_begun b c x y good its is =
    let id = one_id b.id c.id _ _ good.id its.id (same_rest (codes "begun     ") _ _ (sym (begun_cut b x) ∙ is ∙ begun_cut c y)) in
    let bytes = next_number (codes " ") b.bytes c.bytes 32 _ _ (inl (omega arith)) good.bytes its.bytes id.1 in
    let by_parts = λ (k : PlainBegun). plain_begun k.id k.bytes in let same : by_parts b ≡ by_parts c = cc in
    (same, same_rest (codes "bytes\n") x y bytes.1)

one_finished : (f g : PlainFinished) (x y : List ℕ) → IsFinished f → IsFinished g → finished_text f ++ x ≡ finished_text g ++ y → (f ≡ g) × (x ≡ y)
one_finished f g x y good its is =
    let id = one_id f.id g.id _ _ good.id its.id (same_rest (codes "finished  ") _ _ (sym (finished_cut f x) ∙ is ∙ finished_cut g y)) in
    let volumes = next_number (codes " ") f.volumes g.volumes 32 _ _ (inl (omega arith)) (omega (arith, good.volumes)) (omega (arith, its.volumes)) id.1 in
    let blocks = next_number (codes "volumes, ") f.blocks g.blocks 32 _ _ (inl (omega arith)) (omega (arith, good.blocks)) (omega (arith, its.blocks)) volumes.1 in
    let size = next_number (codes "blocks of ") f.block_bytes g.block_bytes 32 _ _ (inl (omega arith)) (omega (arith, good.block_bytes)) (omega (arith, its.block_bytes)) blocks.1 in
    let bytes = next_number (codes "bytes, ") f.bytes g.bytes 32 _ _ (inl (omega arith)) good.bytes its.bytes size.1 in
    let by_parts = λ (k : PlainFinished). plain_finished k.id k.volumes k.blocks k.block_bytes k.bytes in
    let same : by_parts f ≡ by_parts g = cc in
    (same, same_rest (codes "bytes\n") x y bytes.1)

-- Lines of two kinds have different texts.
long_sum : (sum : List ℕ) → IsSum sum → length (encode_lower sum) ≡ 64
long_sum sum is = omega (arith, length-encode_with lower_digits sum, is.0)

pub no_begun : (v : PlainSumLine) (x y : List ℕ) → IsSumLine v → sum_line v ++ x ≡ codes "begun     " ++ y → ⊥
no_begun v x y good is =
    let cut = one_cut 32 (encode_lower v.sum) (codes "begun") _ _ (sum_lacks v.sum good.sum) (lacks_each 32 (codes "begun") (search rules)) (sym (cut_text v x) ∙ is) in
    omega (arith, ap length cut.0, long_sum v.sum good.sum)

pub no_finished : (v : PlainSumLine) (x y : List ℕ) → IsSumLine v → sum_line v ++ x ≡ codes "finished  " ++ y → ⊥
no_finished v x y good is =
    let cut = one_cut 32 (encode_lower v.sum) (codes "finished") _ _ (sum_lacks v.sum good.sum) (lacks_each 32 (codes "finished") (search rules)) (sym (cut_text v x) ∙ is) in
    omega (arith, ap length cut.0, long_sum v.sum good.sum)

pub no_both : (x y : List ℕ) → codes "begun     " ++ x ≡ codes "finished  " ++ y → ⊥
no_both x y is = let first : 98 ≡ 102 = ap (λ l. get_or l 0 0) is in omega (arith, first)

-- a text begins with one line, and has one rest
pub one_line : (l m : CatalogLine) (x y : List ℕ) → IsLine l → IsLine m → line_text l ++ x ≡ line_text m ++ y → (l ≡ m) × (x ≡ y)
one_line (Begun b) (Begun c) x y good its is = let one = one_begun b c x y good its is in (ap Begun one.0, one.1)
one_line (Begun b) (Volume v) x y good its is = absurd (no_begun v y _ its (sym is))
one_line (Begun b) (Finished f) x y good its is = absurd (no_both _ _ is)
one_line (Volume v) (Begun b) x y good its is = absurd (no_begun v x _ good is)
one_line (Volume v) (Volume w) x y good its is = let one = one_volume v w x y good its is in (ap Volume one.0, one.1)
one_line (Volume v) (Finished f) x y good its is = absurd (no_finished v x _ good is)
one_line (Finished f) (Begun b) x y good its is = absurd (no_both _ _ (sym is))
one_line (Finished f) (Volume v) x y good its is = absurd (no_finished v y _ its (sym is))
one_line (Finished f) (Finished g) x y good its is = let one = one_finished f g x y good its is in (ap Finished one.0, one.1)

-- a line has bytes
pub shorter : (l : CatalogLine) (bytes more : List ℕ) → bytes ≡ line_text l ++ more → length more < length bytes
shorter (Begun b) bytes more is =
    let some : 0 < length (begun_text b) = rw length-append (omega arith) in omega (arith, some, ap length is, length-append (begun_text b) more)
shorter (Volume v) bytes more is = shorter_volume v bytes more is
shorter (Finished f) bytes more is =
    let some : 0 < length (finished_text f) = rw length-append (omega arith) in omega (arith, some, ap length is, length-append (finished_text f) more)

-- the text of a finished dump, cut after the dump
pub finished_id : (f : PlainFinished) (x : List ℕ) → finished_text f ++ x ≡ codes "finished  "
    ++ (id_text f.id
    ++ 58 ∷ (codes " " ++ (decimal f.volumes ++ 32 ∷ (codes "volumes, " ++ (decimal f.blocks ++ 32 ∷ (codes "blocks of " ++ (decimal f.block_bytes ++ 32 ∷ (codes "bytes, " ++ (decimal f.bytes ++ 32 ∷ (codes "bytes\n" ++ x))))))))))
finished_id f x = simp append_assoc

-- a line whose text begins with the word of a dump that begins is one
pub reads_begun : (bytes rest : List ℕ) (made : Option PlainBegun) (l : CatalogLine) (more : List ℕ) → bytes ≡ codes "begun     " ++ rest → ReadsBegun bytes made
    → IsLine l → bytes ≡ line_text l ++ more → (b : PlainBegun) × (l ≡ Begun b) × (made ≡ Some b)
reads_begun bytes rest made (Begun b) more begins reads good is = (b, refl, reads b more good is)
reads_begun bytes rest made (Volume v) more begins reads good is = absurd (no_begun v more rest good (sym is ∙ begins))
reads_begun bytes rest made (Finished f) more begins reads good is = absurd (no_both rest _ (sym begins ∙ is))

pub reads_finished : (bytes rest : List ℕ) (made : Option PlainFinished) (l : CatalogLine) (more : List ℕ) → bytes ≡ codes "finished  " ++ rest
    → ReadsFinished bytes made → IsLine l → bytes ≡ line_text l ++ more → (f : PlainFinished) × (l ≡ Finished f) × (made ≡ Some f)
reads_finished bytes rest made (Begun b) more begins reads good is = absurd (no_both _ rest (sym is ∙ begins))
reads_finished bytes rest made (Volume v) more begins reads good is = absurd (no_finished v more rest good (sym is ∙ begins))
reads_finished bytes rest made (Finished f) more begins reads good is = (f, refl, reads f more good is)

pub reads_volume : (bytes : List ℕ) (made : Option PlainSumLine) (l : CatalogLine) (more : List ℕ)
    → ((rest : List ℕ) → bytes ≡ codes "begun     " ++ rest → ⊥) → ((rest : List ℕ) → bytes ≡ codes "finished  " ++ rest → ⊥) → ReadsVolume bytes made
    → IsLine l → bytes ≡ line_text l ++ more → (v : PlainSumLine) × (l ≡ Volume v) × (made ≡ Some v)
reads_volume bytes made (Begun b) more not nor reads good is = absurd (not _ is)
reads_volume bytes made (Volume v) more not nor reads good is = (v, refl, reads v more good is)
reads_volume bytes made (Finished f) more not nor reads good is = absurd (nor _ is)

pub same_pair : {A B : Type 0} (a c : A) (b d : B) → ◌≡◌ {A = Option (A × B)} (Some (a, b)) (Some (c, d)) → (a ≡ c) × (b ≡ d)
same_pair a c b d is = (ap (λ o. unwrap_or (option_map (λ p. p.0) o) a) is, ap (λ o. unwrap_or (option_map (λ p. p.1) o) b) is)
