-- What was written so far, and what is written next.
use Rattle.std.proofs.Common.{◌≡◌, ℕ, zero, suc, ◌-◌, ◌+◌, ◌<◌, ◌≤◌, List, [], ◌∷◌, ◌++◌, length, take, drop, get_or, Option, append-nil, refl, sym, ap, subst, ◌∙◌, length-append, length-drop, arith}
use Rattle.std.proofs.Math.Seq.{take-length}
use Rattle.std.proofs.KnownBytes.{Appends-nil, Appends-trans}
use Rattle.std.proofs.lemmas.List.{take_more, take-append-drop, take-append-le, take-take, drop-append-le, drop-take, drop-drop}
use Rattle.std.proofs.lemmas.List.Folds.{concat-append}
use Rattle.std.specs.Io.KnownBytes.{Appends}
use Rattle.std.specs.List.{concat}
use Rattle.std.specs.Prelude.{Result, Ok, Err, IsErrAnd}
use Rattle.rmt_wire.proofs.Spelling.{beginning_of_first, beginning_past_first}
use Rattle.rmt_wire.specs.ReplyWriter.{AppendsBeginning}

-- the first bytes of two lists are those of the one, and then those of the other
pub take_both : (n : ℕ) (xs ys : List ℕ) → take n (xs ++ ys) ≡ take n xs ++ take (n - length xs) ys
take_both zero xs ys = let none : zero - length xs ≡ zero = omega arith in rw none refl
take_both (suc n) [] ys = let all : suc n - zero ≡ suc n = omega arith in rw all refl
take_both (suc n) (x ∷ xs) ys =
    let less : suc n - suc (length xs) ≡ n - length xs = omega arith in rw less (ap (λ l. x ∷ l) (take_both n xs ys))

-- nothing is written
pub none_written : (old : Option (List ℕ)) (n : ℕ) → Appends old old (take n [])
none_written old zero = Appends-nil old
none_written old (suc n) = Appends-nil old

-- `done` was written up to `n` bytes, and `next` is written up to what is left
module _ (old mid new : Option (List ℕ)) (n left : ℕ) (done next : List ℕ) (written : Appends old mid (take n done)) (left_is : left ≡ n - length done) where
  joined : take n (done ++ next) ≡ take n done ++ take left next
  joined = take_both n done next ∙ ap (λ k. take n done ++ take k next) (sym left_is)

  pub more_written : (more : ℕ) → Appends mid new (take left next) → more ≡ left - length next
      → Appends old new (take n (done ++ next)) × (more ≡ n - length (done ++ next))
  more_written more now is =
      (subst (Appends old new) (sym joined) (Appends-trans old mid new (take n done) (take left next) written now), omega (arith, length-append done next))

  -- a beginning of `next` is one of all
  pub begun : (rest : List ℕ) → AppendsBeginning mid new (take left next) → AppendsBeginning old new (take n ((done ++ next) ++ rest))
  begun rest now =
      let all = take_both n (done ++ next) rest ∙ ap (λ l. l ++ take (n - length (done ++ next)) rest) joined in
      subst (AppendsBeginning old new) (sym all) (beginning_of_first old new (take n done ++ take left next) (take (n - length (done ++ next)) rest)
      (beginning_past_first old mid new (take n done) (take left next) written now))

-- what was written is a beginning of all
pub begun_here : (old mid : Option (List ℕ)) (n : ℕ) (done rest : List ℕ) → Appends old mid (take n done) → AppendsBeginning old mid (take n (done ++ rest))
begun_here old mid n done rest written =
    subst (AppendsBeginning old mid) (sym (take_both n done rest)) (beginning_of_first old mid (take n done) (take (n - length done) rest)
    (length (take n done), subst (Appends old mid) (sym (take-length (take n done))) written))

-- the bytes of the first blocks, with those of the next
concat_more : (blocks : List (List ℕ)) (i : ℕ) → i < length blocks → concat (take (i + 1) blocks) ≡ concat (take i blocks) ++ get_or blocks i []
concat_more blocks i within =
    ap concat (take_more blocks i [] within) ∙ concat-append (take i blocks) (get_or blocks i [] ∷ [])
    ∙ ap (λ l. concat (take i blocks) ++ l) (append-nil (get_or blocks i []))

concat_split : (blocks : List (List ℕ)) (i : ℕ) → concat blocks ≡ concat (take i blocks) ++ concat (drop i blocks)
concat_split blocks i = ap concat (sym (take-append-drop i blocks)) ∙ concat-append (take i blocks) (drop i blocks)

-- The first blocks were written up to `n` bytes. The next one is written up to what is left.
module _ (old mid new : Option (List ℕ)) (n left : ℕ) (blocks : List (List ℕ)) (i : ℕ) (next : List ℕ) (within : i < length blocks)
    (next_is : next ≡ get_or blocks i []) (written : Appends old mid (take n (concat (take i blocks)))) (left_is : left ≡ n - length (concat (take i blocks))) where
  more_is : concat (take (i + 1) blocks) ≡ concat (take i blocks) ++ next
  more_is = concat_more blocks i within ∙ ap (λ l. concat (take i blocks) ++ l) (sym next_is)

  pub block_written : (more : ℕ) → Appends mid new (take left next) → more ≡ left - length next
      → Appends old new (take n (concat (take (i + 1) blocks))) × (more ≡ n - length (concat (take (i + 1) blocks)))
  block_written more now is = rw more_is (more_written old mid new n left (concat (take i blocks)) next written left_is more now is)

  pub block_begun : AppendsBeginning mid new (take left next) → AppendsBeginning old new (take n (concat blocks))
  block_begun now =
      rw (concat_split blocks (i + 1), more_is) (begun old mid new n left (concat (take i blocks)) next written left_is (concat (drop (i + 1) blocks)) now)

-- what was written of the first blocks is a beginning of all
pub blocks_begun : (old mid : Option (List ℕ)) (n : ℕ) (blocks : List (List ℕ)) (i : ℕ) → Appends old mid (take n (concat (take i blocks)))
    → AppendsBeginning old mid (take n (concat blocks))
blocks_begun old mid n blocks i written = rw (concat_split blocks i) (begun_here old mid n (concat (take i blocks)) (concat (drop i blocks)) written)

-- a record without its frame
unframed : (size : ℕ) (bytes : List ℕ) → take size (drop 4 (take (size + 8) bytes)) ≡ take size (drop 4 bytes)
unframed size bytes =
    let more : size + 8 ≡ 4 + (size + 4) = omega arith in
    rw more (ap (take size) (drop-take 4 (size + 4) bytes) ∙ take-take size (size + 4) (drop 4 bytes) (omega arith))

-- a record with its frame was read
pub block_read : (frame rest bytes : List ℕ) (at size count : ℕ) → length frame ≡ size + 8 → count ≡ length frame → take count frame ≡ take count (drop at bytes)
    → take size (drop 4 (frame ++ rest)) ≡ take size (drop (at + 4) bytes)
block_read frame rest bytes at size count long all read =
    let four : 4 ≤ length frame = omega arith in
    let enough : size ≤ length (drop 4 frame) = omega (arith, length-drop 4 frame) in
    let whole : take (size + 8) frame ≡ take (size + 8) (drop at bytes) = rw (← (all ∙ long)) read in
    ap (take size) (drop-append-le 4 frame rest four) ∙ take-append-le size (drop 4 frame) rest enough
    ∙ sym (unframed size frame) ∙ ap (λ l. take size (drop 4 l)) whole ∙ unframed size (drop at bytes) ∙ ap (take size) (drop-drop 4 at bytes)

-- a failure that is passed on
pub is_fault : {X E : Type 0} {result : Result X E} {fault : E} → IsErrAnd result (λ e. e ≡ fault) → result ≡ Err fault
is_fault {result = Ok x} is = absurd is
is_fault {result = Err e} is = ap (λ f. Err f) is

-- The blocks of some volumes were written up to `n` bytes. Those of the next are written up to what is left.
module _ (old mid new : Option (List ℕ)) (n left : ℕ) (done blocks : List (List ℕ)) (written : Appends old mid (take n (concat done))) (left_is : left ≡ n - length (concat done)) where
  pub volume_written : (more : ℕ) → Appends mid new (take left (concat blocks)) → more ≡ left - length (concat blocks)
      → Appends old new (take n (concat (done ++ blocks))) × (more ≡ n - length (concat (done ++ blocks)))
  volume_written more now is = rw (concat-append done blocks) (more_written old mid new n left (concat done) (concat blocks) written left_is more now is)

  pub volume_begun : (rest payload : List (List ℕ)) → payload ≡ (done ++ blocks) ++ rest → AppendsBeginning mid new (take left (concat blocks))
      → AppendsBeginning old new (take n (concat payload))
  volume_begun rest payload is now =
      rw (is, concat-append (done ++ blocks) rest, concat-append done blocks) (begun old mid new n left (concat done) (concat blocks) written left_is (concat rest) now)
