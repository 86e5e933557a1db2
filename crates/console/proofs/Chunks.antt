-- What is printed of bytes, run of text by run of text.
use Rattle.std.proofs.Common.{◌≡◌, ℕ, zero, suc, ◌+◌, ◌<◌, ◌≤◌, ◌==◌, true, false, cond, List, [], ◌++◌, length, take, drop, sym, ap, ap₂, ◌∙◌, refl, append_assoc, arith}
use Rattle.std.proofs.Math.Seq.{take-append_seam, drop-append_seam, drop-append-add}
use Rattle.std.proofs.lemmas.Bool.Decides.{nat_tests}
use Rattle.std.specs.Str.Lossy.{utf8_valid_len, utf8_invalid_len}
use Rattle.console.specs.Printing.{mark_of, plain_text, printable_within}

-- valid is the text at the front of bytes, invalid the sequence after it, and rest what is left
pub record IsSplit (bytes valid invalid rest : List ℕ) : Type 0 where
  pub parts : bytes ≡ valid ++ (invalid ++ rest)
  pub text : length valid ≡ utf8_valid_len bytes
  pub sequence : length invalid ≡ utf8_invalid_len (drop (utf8_valid_len bytes) bytes)
  pub shorter : length rest < length bytes

printable-more : (k : ℕ) (bytes valid invalid rest : List ℕ) → IsSplit bytes valid invalid rest
    → printable_within (suc k) bytes ≡ plain_text valid ++ (mark_of (length invalid) ++ printable_within k rest)
printable-more k bytes valid invalid rest s =
    let n = utf8_valid_len bytes in
    let m = utf8_invalid_len (drop n bytes) in
    let bound = s.shorter in
    let some : (length bytes == 0) ≡ false = grind (arith, nat_tests) in
    let front : take n bytes ≡ valid = ap₂ take (sym s.text) s.parts ∙ take-append_seam valid (invalid ++ rest) in
    let back : drop (n + m) bytes ≡ rest =
    ap₂ drop (ap₂ ◌+◌ (sym s.text) (sym s.sequence)) s.parts ∙ drop-append-add valid (invalid ++ rest) (length invalid) ∙ drop-append_seam invalid rest in
    ap (λ b. cond b [] (plain_text (take n bytes) ++ (mark_of m ++ printable_within k (drop (n + m) bytes)))) some
    ∙ ap₂ (λ a b. plain_text a ++ b) front (ap₂ (λ i r. mark_of i ++ printable_within k r) (sym s.sequence) back)

-- nothing is printed of no bytes
pub printable-nil : (k : ℕ) (bytes : List ℕ) → length bytes ≡ 0 → printable_within k bytes ≡ []
printable-nil zero bytes none = refl
printable-nil (suc k) bytes none =
    let n = utf8_valid_len bytes in
    let m = utf8_invalid_len (drop n bytes) in
    let empty : (length bytes == 0) ≡ true = grind (arith, nat_tests) in
    ap (λ b. cond b [] (plain_text (take n bytes) ++ (mark_of m ++ printable_within k (drop (n + m) bytes)))) empty

-- after a run of text and the sequence after it less is left to print, of a whole that stays
pub printable-next : (k : ℕ) (done whole bytes valid invalid rest : List ℕ) → IsSplit bytes valid invalid rest → length bytes ≤ k
    → done ++ printable_within k bytes ≡ whole
    → (j : ℕ) × (length rest ≤ j) × ((done ++ (plain_text valid ++ mark_of (length invalid))) ++ printable_within j rest ≡ whole)
printable-next zero done whole bytes valid invalid rest s enough is = let bound = s.shorter in absurd (omega arith)
printable-next (suc j) done whole bytes valid invalid rest s enough is =
    let bound = s.shorter in
    let text = plain_text valid in
    let mark = mark_of (length invalid) in
    let left = printable_within j rest in (
      j,
      omega arith,
      append_assoc done (text ++ mark) left ∙ ap (λ l. done ++ l) (append_assoc text mark left ∙ sym (printable-more j bytes valid invalid rest s)) ∙ is,
    )
