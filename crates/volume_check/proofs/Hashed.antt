-- Entries, blocks and pieces, one more at a time.
use Rattle.std.proofs.Common.{◌≡◌, ℕ, zero, suc, ◌+◌, List, [], ◌∷◌, ◌++◌, length, take, sym, ap, subst, ◌∙◌, append_assoc, arith}
use Rattle.std.specs.Prelude.{get_or}
use Rattle.std.proofs.lemmas.List.{append-nil}
use Rattle.std.proofs.lemmas.Grind.{flat_map-append}
use Rattle.std.proofs.Math.Seq.{take-add}
use Rattle.tape.specs.Tape.{PlainEntry}
use Rattle.tape.specs.Tape.PlainEntry.{Record, Mark}
use Rattle.tape.specs.RecordFile.{length_bytes, image_of, images_of}
use Rattle.sha2.specs.Hashers.{Holds256}
use Rattle.sha2.specs.declared.Sha256.{Sha256}
use Rattle.volume_check.specs.Volume.{block_records}
use Rattle.volume_check.specs.Hashing.{IsPieceHashed}

-- the file of entries and a record more, where its length is spelled so
pub record_hashed : (entries : List PlainEntry) (bytes p : List ℕ) → p ≡ length_bytes (length bytes)
    → ((images_of entries ++ p) ++ bytes) ++ p ≡ images_of (entries ++ Record bytes ∷ [])
record_hashed entries bytes p is =
    append_assoc (images_of entries ++ p) bytes p
    ∙ append_assoc (images_of entries) p (bytes ++ p)
    ∙ ap (λ l. images_of entries ++ (l ++ (bytes ++ l))) is
    ∙ ap (λ l. images_of entries ++ l) (sym (append-nil (image_of (Record bytes))))
    ∙ sym (flat_map-append image_of entries (Record bytes ∷ []))

pub mark_hashed : (entries : List PlainEntry) (p : List ℕ) → p ≡ length_bytes 0 → images_of entries ++ p ≡ images_of (entries ++ Mark ∷ [])
mark_hashed entries p is =
    ap (λ l. images_of entries ++ l) (is ∙ sym (append-nil (image_of Mark)))
    ∙ sym (flat_map-append image_of entries (Mark ∷ []))

-- one block more
more_records : (payload : List (List ℕ)) (first count : ℕ)
    → block_records payload first (suc count) ≡ block_records payload first count ++ Record (get_or payload (first + count) []) ∷ []
more_records payload first zero = ap (λ n. Record (get_or payload n []) ∷ []) (omega arith)
more_records payload first (suc count) =
    ap (λ l. Record (get_or payload first []) ∷ l)
    (more_records payload (suc first) count ∙ ap (λ n. block_records payload (suc first) count ++ Record (get_or payload n []) ∷ []) (omega arith))

pub block_hashed : (label bytes : List ℕ) (payload : List (List ℕ)) (first before count number : ℕ) → number ≡ first + before → count ≡ before + 1
    → bytes ≡ get_or payload number []
    → (Record label ∷ block_records payload first before) ++ Record bytes ∷ [] ≡ Record label ∷ block_records payload first count
block_hashed label bytes payload first before count number place more is =
    let next : suc before ≡ count = omega arith in
    ap (λ l. Record label ∷ (block_records payload first before ++ Record l ∷ [])) (is ∙ ap (λ n. get_or payload n []) place)
    ∙ ap (λ l. Record label ∷ l) (sym (more_records payload first before))
    ∙ ap (λ n. Record label ∷ block_records payload first n) next

-- a piece more of the bytes of a medium
pub piece_hashed : (x y : List ℕ) (at size count : ℕ) (h k : Sha256) → y ≡ x → Holds256 h (take at x) → IsPieceHashed y at size count h k
    → Holds256 k (take (at + count) x)
piece_hashed x y at size count h k same held piece =
    let there : IsPieceHashed x at size count h k = subst (λ (l : List ℕ). IsPieceHashed l at size count h k) same piece in
    subst (λ (m : List ℕ). Holds256 k m) (sym (take-add at count x)) (there.hashed (take at x) held)
