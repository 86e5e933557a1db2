-- Where the blocks of a volume lie in its record file.
use Rattle.std.proofs.Common.{◌≡◌, ℕ, zero, suc, ◌+◌, ◌*◌, ◌<◌, List, [], ◌∷◌, ◌++◌, length, take, drop, get_or, refl, ap, subst, ◌∙◌, append_assoc, length-append, arith}
use Rattle.std.proofs.Math.Nat.{suc-mul, zero-mul}
use Rattle.std.proofs.lemmas.List.{take_at}
use Rattle.std.proofs.lemmas.List.Elements.{All-nil, All-head, All-tail}
use Rattle.std.proofs.Math.Seq.{drop-append-add}
use Rattle.std.specs.Prelude.{All, map}
use Rattle.tape.proofs.Spelling.{image_parts, length_length_bytes, rest_is}
use Rattle.tape.specs.RecordFile.{image_of, images_of, length_bytes}
use Rattle.tape.specs.Tape.{PlainEntry}
use Rattle.tape.specs.Tape.PlainEntry.{Record, Mark}
use Rattle.dump_run.specs.Label.{PlainLabel, label_record}
use Rattle.dump_run.proofs.LabelReading.{length_record}
use Rattle.restore.specs.Volumes.{AreBlocks, IsVolumeFile}

-- a record lies behind its length
bytes_at : (bytes rest : List ℕ) → take (length bytes) (drop 4 (image_of (Record bytes) ++ rest)) ≡ bytes
bytes_at bytes rest =
    ap (take (length bytes)) (rest_is (image_of (Record bytes) ++ rest) ((bytes ++ length_bytes (length bytes)) ++ rest) (length bytes) (image_parts (Record bytes) rest))
    ∙ ap (take (length bytes)) (append_assoc bytes (length_bytes (length bytes)) rest)
    ∙ take_at bytes (length_bytes (length bytes) ++ rest) (length bytes) refl

-- its image is 8 bytes longer
image_length : (bytes : List ℕ) → length (image_of (Record bytes)) ≡ length bytes + 8
image_length bytes = grind (arith, length-append {A = ℕ}, length_length_bytes)

-- and another image of that size lies before what follows it
past_image : (bytes rest : List ℕ) (size i : ℕ) → length bytes ≡ size
    → drop (suc i * (size + 8) + 4) (image_of (Record bytes) ++ rest) ≡ drop (i * (size + 8) + 4) rest
past_image bytes rest size i is =
    let far : suc i * (size + 8) + 4 ≡ length (image_of (Record bytes)) + (i * (size + 8) + 4)
    = omega (arith, suc-mul i (size + 8), image_length bytes) in
    ap (λ n. drop n (image_of (Record bytes) ++ rest)) far ∙ drop-append-add (image_of (Record bytes)) rest (i * (size + 8) + 4)

blocks_at : (size : ℕ) (blocks : List (List ℕ)) (more : List PlainEntry) (i : ℕ) → All (λ b. length b ≡ size) blocks → i < length blocks
    → take size (drop (i * (size + 8) + 4) (images_of (map Record blocks ++ more))) ≡ get_or blocks i []
blocks_at size [] more i sizes within = absurd (omega arith)
blocks_at size (b ∷ bs) more zero sizes within =
    let is = All-head (λ x. length x ≡ size) b bs sizes in
    let front : zero * (size + 8) + 4 ≡ 4 = omega (arith, zero-mul (size + 8)) in
    rw front (subst (λ n. take n (drop 4 (image_of (Record b) ++ images_of (map Record bs ++ more))) ≡ b) is (bytes_at b (images_of (map Record bs ++ more))))
blocks_at size (b ∷ bs) more (suc i) sizes within =
    ap (take size) (past_image b (images_of (map Record bs ++ more)) size i (All-head (λ x. length x ≡ size) b bs sizes))
    ∙ blocks_at size bs more i (All-tail (λ x. length x ≡ size) b bs sizes) (omega arith)

-- the blocks of a volume have one size
pub one_size : (size : ℕ) (blocks : List (List ℕ)) → AreBlocks size blocks → All (λ b. length b ≡ size) blocks
one_size size [] sizes = All-nil (λ b. length b ≡ size)
one_size size (b ∷ bs) sizes = sizes.1

-- a block of a volume's file
pub block_at : (bytes : List ℕ) (label : PlainLabel) (size : ℕ) (blocks : List (List ℕ)) (i : ℕ) → IsVolumeFile bytes label size blocks → i < length blocks
    → take size (drop (1032 + i * (size + 8) + 4) bytes) ≡ get_or blocks i []
block_at bytes label size blocks i v within =
    let front = image_of (Record (label_record label)) in
    let rest = images_of (map Record blocks ++ Mark ∷ []) in
    let far : 1032 + i * (size + 8) + 4 ≡ length front + (i * (size + 8) + 4)
    = omega (arith, image_length (label_record label), length_record label v.is_label) in
    ap (λ n. take size (drop n bytes)) far ∙ ap (λ l. take size (drop (length front + (i * (size + 8) + 4)) l)) v.file
    ∙ ap (take size) (drop-append-add front rest (i * (size + 8) + 4))
    ∙ blocks_at size blocks (Mark ∷ []) i (one_size size blocks v.sizes) within
