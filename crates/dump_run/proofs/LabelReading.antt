-- The lines of a label, one after the other, as they are read.
use Rattle.dump_run.proofs.Words.{AllByRecursion, IsInRange, append-nil, length-replicate, IsName, PlainLabel, IsLabel, label_record, plain_label, FindsLabel, lines_of, joined, NoFeed, FindsNumber, ◌≡◌, ◌≢◌, ℕ, suc, ◌-◌, ◌<◌, ◌≤◌, ◌^◌, List, [], ◌∷◌, ◌++◌, codes, length, drop, replicate, decimal}
use Rattle.dump_run.proofs.Words.{None, true, refl, sym, ap, ◌∙◌, append_assoc, length-append, arith}
use Rattle.dump_run.proofs.FieldCut.{value_of, name_lacks, lacks_append, is_clean, word_lacks, number_lacks, same_begun}
use Rattle.dump_run.proofs.ReadLines.{joined_more}
use Rattle.dump_run.proofs.LabelText.{line_number_is_short}

-- the lines of a label, without the line feeds
abbrev label_list : PlainLabel → List (List ℕ)
label_list l =
    (codes "name " ++ l.name) ∷ (codes "level " ++ decimal l.level) ∷ (codes "date " ++ decimal l.date) ∷ (codes "since " ++ decimal l.since)
    ∷ (codes "volume " ++ decimal l.volume) ∷ (codes "first " ++ decimal l.first) ∷ []

pub joined_list : (l : PlainLabel) (rest : List ℕ) → lines_of l ++ rest ≡ joined (label_list l) ++ rest
joined_list l rest = rw append-nil

-- The numbers of a label are numbers of a u64.
pub record AreSmall (l : PlainLabel) : Type 0 where
  pub level : l.level < 2 ^ 64
  pub date : l.date < 2 ^ 64
  pub since : l.since < 2 ^ 64
  pub volume : l.volume < 2 ^ 64
  pub first : l.first < 2 ^ 64

pub are_small : (l : PlainLabel) → IsLabel l → AreSmall l
are_small l its = grind (arith, its)

label_lacks : (l : PlainLabel) → IsLabel l → AllByRecursion NoFeed (label_list l)
label_lacks l its =
    let small = are_small l its in
    let name = lacks_append 10 (codes "name ") l.name (word_lacks (codes "name ") refl) (name_lacks l.name its.name) in
    let level = number_lacks (codes "level ") l.level refl small.level in
    let date = number_lacks (codes "date ") l.date refl small.date in
    let since = number_lacks (codes "since ") l.since refl small.since in
    let volume = number_lacks (codes "volume ") l.volume refl small.volume in
    let first = number_lacks (codes "first ") l.first refl small.first in
    assumption (name, level, date, since, volume, first)

-- Lines of the bytes were read, no line feed is in them, and this is left.
pub record IsReached (bytes left : List ℕ) (read : List (List ℕ)) : Type 0 where
  pub split : bytes ≡ joined read ++ left
  pub lack : AllByRecursion NoFeed read

pub past_name : {bytes : List ℕ} (name more : List ℕ) → IsName name → bytes ≡ (codes "name " ++ name) ++ 10 ∷ more → IsReached bytes more ((codes "name " ++ name) ∷ [])
past_name {bytes} name more its is = record {
  split = is ∙ simp append_assoc;
  lack = (lacks_append 10 (codes "name ") name (word_lacks (codes "name ") refl) (name_lacks name its), tt);
}

one_more : (read : List (List ℕ)) (line : List ℕ) → AllByRecursion NoFeed read → NoFeed line → AllByRecursion NoFeed (read ++ line ∷ [])
one_more [] line lack its = (its, tt)
one_more (r ∷ rs) line lack its = (lack.0, one_more rs line lack.1 its)

pub past_number : {bytes left : List ℕ} {read : List (List ℕ)} (word : List ℕ) (n : ℕ) (more : List ℕ) → is_clean word ≡ true → n < 2 ^ 64
    → IsReached bytes left read → left ≡ (word ++ decimal n) ++ 10 ∷ more → IsReached bytes more (read ++ (word ++ decimal n) ∷ [])
past_number {bytes} {left} {read} word n more clean small reached is = record {
  split = reached.split ∙ ap (λ l. joined read ++ l) is ∙ joined_more read (word ++ decimal n) more;
  lack = one_more read (word ++ decimal n) reached.lack (number_lacks word n clean small);
}

-- no line of this word is left, so the bytes are no label's
pub no_number : {bytes left : List ℕ} {read : List (List ℕ)} (word : List ℕ) (value : PlainLabel → ℕ) (least most : ℕ) → IsReached bytes left read
    → length read ≤ 6 → ((l : PlainLabel) → drop (length read) (label_list l) ≡ (word ++ decimal (value l)) ∷ drop (suc (length read)) (label_list l))
    → ((l : PlainLabel) → IsLabel l → IsInRange least most (value l)) → FindsNumber word least most left None → FindsLabel bytes None
no_number {bytes} {left} {read} word value least most reached few at within found = λ l rest lawful is.
    let others = joined (drop (suc (length read)) (label_list l)) ++ rest in
    let begun = same_begun read (label_list l) left rest reached.lack (label_lacks l lawful) few (sym reached.split ∙ is ∙ joined_list l rest) in
    found (value l) others (within l lawful) (begun.1 ∙ ap (λ x. joined x ++ rest) (at l) ∙ simp append_assoc)

-- the lines of a label are those of no other
pub one_text : (l m : PlainLabel) (x y : List ℕ) → IsLabel l → IsLabel m → lines_of l ++ x ≡ lines_of m ++ y → (l ≡ m) × (x ≡ y)
one_text l m x y its others is =
    let few = are_small l its in
    let small = are_small m others in
    let begun = same_begun (label_list l) (label_list m) x y (label_lacks l its) (label_lacks m others) (omega arith) (sym (joined_list l x) ∙ is ∙ joined_list m y) in
    let whole : plain_label l.name l.level l.date l.since l.volume l.first ≡ plain_label m.name m.level m.date m.since m.volume m.first =
    grind (arith, value_of, few, small, begun.0) in (whole, begun.1)

pub one_record : (l m : PlainLabel) → IsLabel l → IsLabel m → label_record l ≡ label_record m → l ≡ m
one_record l m its others is =
    (one_text l m (replicate (1024 - length (lines_of l)) 0) (replicate (1024 - length (lines_of m)) 0) its others is).0

-- a label has at most 356 bytes of text, and fills its record
pub length_record : (l : PlainLabel) → IsLabel l → length (label_record l) ≡ 1024
length_record l its =
    let name = its.name in
    let fits : length (lines_of l) ≤ 356 = simp length-append (omega (arith, line_number_is_short, its.level, its.date, its.since, its.volume, its.first)) in
    omega (arith, fits, length-append (lines_of l) (replicate (1024 - length (lines_of l)) 0), length-replicate {A = ℕ} (1024 - length (lines_of l)) 0)

-- a record of another length is none
pub other_length : (bytes : List ℕ) → (length bytes ≡ 1024 → ⊥) → (l : PlainLabel) → IsLabel l → bytes ≢ label_record l
other_length bytes other l its is = other (ap length is ∙ length_record l its)

-- nor is one with other bytes after its lines
pub other_rest : (bytes rest : List ℕ) (m : PlainLabel) → IsLabel m → bytes ≡ lines_of m ++ rest → (rest ≡ replicate (length rest) 0 → ⊥)
    → (l : PlainLabel) → IsLabel l → bytes ≢ label_record l
other_rest bytes rest m lawful is differs l its there =
    let count = 1024 - length (lines_of l) in
    let same = (one_text m l rest (replicate count 0) lawful its (sym is ∙ there)).1 in
    differs (grind (arith, same, length-replicate {A = ℕ} count 0))

-- with zeros up to its end it is the label
pub whole_record : (bytes rest : List ℕ) (m : PlainLabel) → length bytes ≡ 1024 → bytes ≡ lines_of m ++ rest → rest ≡ replicate (length rest) 0 → bytes ≡ label_record m
whole_record bytes rest m long is zeros = grind (arith, length-append (lines_of m) rest)
