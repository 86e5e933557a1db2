-- The text of a line, cut at its fields. The text of a line is that of no other.
use Rattle.std.proofs.Common.{◌≡◌, ◌≢◌, ◌⊎◌, inl, inr, ℕ, ◌<◌, ◌^◌, List, [], ◌∷◌, ◌++◌, codes, length, length-append, get_or, decimal, Option, Some, None, true, Ok, sym, ap, subst, ◌∙◌, append_assoc, arith}
use Rattle.std.specs.Borrow.{Bor}
use Rattle.std.specs.Option.{MatchOption}
use Rattle.std.specs.Int.{IsInRange}
use Rattle.std.specs.List.{AllByRecursion}
use Rattle.std.proofs.lemmas.Fmt.{decimal_injective, decimal_is_IsNumeral}
use Rattle.std.proofs.lemmas.Bool.{true≢false}
use Rattle.std.proofs.lemmas.Str.Parse.{digit_at}
use Rattle.hex.specs.Hex.{encode_lower, decode_of, is_hex_digit}
use Rattle.hex.proofs.HexLemmas.{decode_of-encode_lower, decode_of-ok}
use Rattle.dumpdates.specs.Entry.{IsName}
use Rattle.dump_run.specs.Label.{PlainLabel, plain_label}
use Rattle.dump_run.specs.CheckpointParts.{Lacks}
use Rattle.dump_run.proofs.FieldCut.{one_cut, same_rest, lacks_each, lacks_decimal}
use Rattle.dump_run.proofs.LabelReading.{are_small}
use Rattle.catalog.specs.DumpLines.{PlainFinished, finished_text, id_text}
use Rattle.catalog.specs.SumLine.{PlainSumLine, plain_sum_line, IsSum, IsSumLine, numbered, volume_text, file_bytes, sum_line}
use Rattle.catalog.specs.Reading.{FindsRest}

-- the text of a line, field by field, with other bytes after it
abbrev pub by_fields : PlainSumLine → List ℕ → List ℕ
by_fields l x =
    encode_lower l.sum ++ (codes "  " ++ (l.label.name
    ++ numbered (codes " level ") l.label.level
    (numbered (codes " date ") l.label.date
    (numbered (codes " since ") l.label.since
    (numbered (codes " volume ") l.label.volume
    (numbered (codes " first ") l.label.first
    (numbered (codes ", ") l.blocks
    (numbered (codes " blocks of ") l.block_bytes
    (codes " bytes" ++ numbered (codes ", ") (file_bytes l.blocks l.block_bytes) (codes " bytes\n" ++ x))))))))))

pub cut_text : (l : PlainSumLine) (x : List ℕ) → sum_line l ++ x ≡ by_fields l x
cut_text l x = simp append_assoc

-- the parts of a volume that were appended, one after the other
pub volume_appended : (label : PlainLabel) (blocks size : ℕ) (old a b c d e f g h all : List ℕ) → a ≡ old ++ label.name
    → b ≡ a ++ (codes " level " ++ decimal label.level) → c ≡ b ++ (codes " date " ++ decimal label.date)
    → d ≡ c ++ (codes " since " ++ decimal label.since) → e ≡ d ++ (codes " volume " ++ decimal label.volume)
    → f ≡ e ++ (codes " first " ++ decimal label.first) → g ≡ f ++ (codes ", " ++ decimal blocks) → h ≡ g ++ (codes " blocks of " ++ decimal size)
    → all ≡ h ++ codes " bytes" → all ≡ old ++ volume_text label blocks size
volume_appended label blocks size old a b c d e f g h all i j k l m n o p q = rw (q, p, o, n, m, l, k, j, i) (simp append_assoc)

-- and those of a line
pub line_appended : (l : PlainSumLine) (label : PlainLabel) (blocks size : ℕ) (old a b c d all : List ℕ) → label ≡ l.label → blocks ≡ l.blocks
    → size ≡ l.block_bytes → a ≡ old ++ encode_lower l.sum → b ≡ a ++ codes "  " → c ≡ b ++ volume_text label blocks size → d ≡ c ++
    (codes ", " ++ decimal (file_bytes l.blocks l.block_bytes))
    → all ≡ d ++ codes " bytes\n" → all ≡ old ++ sum_line l
line_appended l label blocks size old a b c d all same count width i j k m n = rw (n, m, k, same, count, width, j, i) (simp append_assoc)

-- and those of a finished dump
pub finished_appended : (f : PlainFinished) (old a b c d e g all : List ℕ) → a ≡ old ++ codes "finished  " → b ≡ a ++ id_text f.id
    → c ≡ b ++ (codes ": " ++ decimal f.volumes) → d ≡ c ++ (codes " volumes, " ++ decimal f.blocks)
    → e ≡ d ++ (codes " blocks of " ++ decimal f.block_bytes) → g ≡ e ++ (codes " bytes, " ++ decimal f.bytes) → all ≡ g ++ codes " bytes\n"
    → all ≡ old ++ finished_text f
finished_appended f old a b c d e g all i j k l m n o = rw (o, n, m, l, k, j, i) (simp append_assoc)

-- the sum has no space
pub sum_lacks : (sum : List ℕ) → IsSum sum → Lacks 32 (encode_lower sum)
sum_lacks sum is = λ i within same.
    (let digits = (decode_of-ok (encode_lower sum) sum (decode_of-encode_lower sum is.1)).1 in
    let digit : is_hex_digit (get_or (encode_lower sum) i 0) ≡ true = digits i 0 within in
    let clash : is_hex_digit 32 ≡ true = subst (λ b. is_hex_digit b ≡ true) same digit in
    true≢false (sym clash))

pub one_sum : (s t : List ℕ) → IsSum s → IsSum t → encode_lower s ≡ encode_lower t → s ≡ t
one_sum s t is its same =
    let both : Ok s ≡ Ok t = sym (decode_of-encode_lower s is.1) ∙ ap decode_of same ∙ decode_of-encode_lower t its.1 in cc

-- nor has a name
printed : (text : List ℕ) → AllByRecursion (IsInRange 33 126) text → AllByRecursion (λ b. b ≢ 32) text
printed [] each = tt
printed (b ∷ bs) each = grind (arith, printed bs each.1)

pub name_lacks : (name : List ℕ) → IsName name → Lacks 32 name
name_lacks name n = lacks_each 32 name (printed name n.1)

-- the number of blocks and the bytes of a block fit a u64; `are_small` is the same for the numbers of a label
pub is_small : (l : PlainSumLine) → IsSumLine l → (l.blocks < 2 ^ 64) × (l.block_bytes < 2 ^ 64)
is_small l good = (omega (arith, good.blocks), grind (arith, good.size))

-- a number is cut off in one way
next_number : (word : List ℕ) (n m end : ℕ) (x y : List ℕ) → end < 48 → n < 2 ^ 64 → m < 2 ^ 64
    → word ++ (decimal n ++ end ∷ x) ≡ word ++ (decimal m ++ end ∷ y) → (n ≡ m) × (x ≡ y)
next_number word n m end x y low few small is =
    let cut = one_cut end (decimal n) (decimal m) x y (lacks_decimal end n low few) (lacks_decimal end m low small)
    (same_rest word (decimal n ++ end ∷ x) (decimal m ++ end ∷ y) is) in
    (decimal_injective n m few small cut.0, cut.1)

same_line : (l m : PlainSumLine) → l.sum ≡ m.sum → l.label.name ≡ m.label.name → l.label.level ≡ m.label.level → l.label.date ≡ m.label.date
    → l.label.since ≡ m.label.since → l.label.volume ≡ m.label.volume → l.label.first ≡ m.label.first → l.blocks ≡ m.blocks
    → l.block_bytes ≡ m.block_bytes → l ≡ m
same_line l m sum name level date since volume first blocks bytes =
    let by_parts = λ (k : PlainSumLine). plain_sum_line k.sum
    (plain_label k.label.name k.label.level k.label.date k.label.since k.label.volume k.label.first) k.blocks k.block_bytes in
    let same : by_parts l ≡ by_parts m = cc in same

-- a text begins with one line, and has one rest
pub one_line : (l m : PlainSumLine) (x y : List ℕ) → IsSumLine l → IsSumLine m → sum_line l ++ x ≡ sum_line m ++ y → (l ≡ m) × (x ≡ y)
one_line l m x y good its is =
    let few = are_small l.label good.label in let low = are_small m.label its.label in
    let (count, size) = is_small l good in let (total, length) = is_small m its in
    let sum = one_cut 32 (encode_lower l.sum) (encode_lower m.sum) _ _ (sum_lacks l.sum good.sum) (sum_lacks m.sum its.sum)
    (sym (cut_text l x) ∙ is ∙ cut_text m y) in
    let name = one_cut 32 l.label.name m.label.name _ _ (name_lacks l.label.name good.label.name) (name_lacks m.label.name its.label.name)
    (same_rest (codes " ") _ _ sum.1) in
    let level = next_number (codes "level ") l.label.level m.label.level 32 _ _ (omega arith) few.level low.level name.1 in
    let date = next_number (codes "date ") l.label.date m.label.date 32 _ _ (omega arith) few.date low.date level.1 in
    let since = next_number (codes "since ") l.label.since m.label.since 32 _ _ (omega arith) few.since low.since date.1 in
    let volume = next_number (codes "volume ") l.label.volume m.label.volume 32 _ _ (omega arith) few.volume low.volume since.1 in
    let first = next_number (codes "first ") l.label.first m.label.first 44 _ _ (omega arith) few.first low.first volume.1 in
    let blocks = next_number (codes " ") l.blocks m.blocks 32 _ _ (omega arith) count total first.1 in
    let bytes = next_number (codes "blocks of ") l.block_bytes m.block_bytes 32 _ _ (omega arith) size length blocks.1 in
    let one = one_sum l.sum m.sum good.sum its.sum sum.0 in
    let same = same_line l m one name.0 level.0 date.0 since.0 volume.0 first.0 blocks.0 bytes.0 in
    (same, same_rest (sum_line l) x y (is ∙ ap (λ k. sum_line k ++ y) (sym same)))

-- a line has bytes
pub shorter : (l : PlainSumLine) (bytes more : List ℕ) → bytes ≡ sum_line l ++ more → length more < length bytes
shorter l bytes more is =
    let some : 0 < length (sum_line l) = rw length-append (omega arith) in
    omega (arith, some, ap length is, length-append (sum_line l) more)

-- a text is found or not found at the beginning
pub found_rest : (text bytes : List ℕ) (r : Option (Bor (List ℕ)))
    → MatchOption r ((rest : List ℕ) → bytes ≢ text ++ rest) (λ x. bytes ≡ text ++ x.now)
    → FindsRest text bytes r
found_rest text bytes None found = found
found_rest text bytes (Some rest) found = found

-- the digits of a number are no other byte
pub lacks_number : (byte n : ℕ) → (byte < 48) ⊎ (57 < byte) → n < 2 ^ 64 → Lacks byte (decimal n)
lacks_number byte n (inl low) small = lacks_decimal byte n low small
lacks_number byte n (inr high) small = λ i within same.
    omega (arith, (digit_at (decimal n) i (decimal_is_IsNumeral n small).0.1 within).1, same, high)
