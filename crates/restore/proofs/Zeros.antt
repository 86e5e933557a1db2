-- Zero bytes, and bytes behind them, that are written.
use Rattle.std.proofs.Common.{◌≡◌, ℕ, zero, suc, ◌+◌, ◌-◌, ◌≤◌, min, List, [], ◌∷◌, ◌++◌, length, take, Option, append-nil, sym, ap, subst, ◌∙◌, arith}
use Rattle.std.proofs.KnownBytes.{Appends-trans}
use Rattle.std.proofs.lemmas.List.{length-replicate, replicate-append-replicate, take-replicate}
use Rattle.std.specs.Io.KnownBytes.{Appends}
use Rattle.std.specs.Prelude.{Result, Ok, Err}
use Rattle.rmt_wire.proofs.Spelling.{beginning_of_first, beginning_past_first}
use Rattle.rmt_wire.specs.ReplyWriter.{AppendsBeginning}
use Rattle.restore.proofs.Writing.{begun, more_written, take_both}
use Rattle.restore.specs.Partial.{zeros}
use Rattle.restore.specs.Spaced.{AreAllWritten}
use Rattle.restore.specs.Written.{IsWritten}

-- more zero bytes
pub more_zeros : (old mid new : Option (List ℕ)) (done next all : ℕ) → Appends old mid (zeros done) → Appends mid new (zeros next) → all ≡ done + next
    → Appends old new (zeros all)
more_zeros old mid new done next all written now is =
    subst (Appends old new) (replicate-append-replicate done next 0 ∙ ap zeros (sym is)) (Appends-trans old mid new (zeros done) (zeros next) written now)

-- a beginning of more zero bytes is one of all
pub begun_zeros : (old mid new : Option (List ℕ)) (done next all : ℕ) → Appends old mid (zeros done) → AppendsBeginning mid new (zeros next) → done + next ≤ all
    → AppendsBeginning old new (zeros all)
begun_zeros old mid new done next all written now within =
    let rest = all - (done + next) in
    let is : (done + next) + rest ≡ all = omega arith in
    let list = ap (λ l. l ++ zeros rest) (replicate-append-replicate done next 0) ∙ replicate-append-replicate (done + next) rest 0 ∙ ap zeros is in
    subst (AppendsBeginning old new) list (beginning_of_first old new (zeros done ++ zeros next) (zeros rest)
    (beginning_past_first old mid new (zeros done) (zeros next) written now))

take_zeros : (n count : ℕ) → take n (zeros count) ≡ zeros (min count n)
take_zeros zero count = let none : 0 ≡ min count zero = omega arith in ap zeros none
take_zeros (suc n) zero = let none : 0 ≡ min zero (suc n) = omega arith in ap zeros none
take_zeros (suc n) (suc count) =
    let more : suc (min count n) ≡ min (suc count) (suc n) = omega arith in ap (λ l. 0 ∷ l) (take_zeros n count) ∙ ap zeros more

-- a beginning of the first bytes is one of all
pub begun_before : (old new : Option (List ℕ)) (n : ℕ) (first rest : List ℕ) → AppendsBeginning old new (take n first) → AppendsBeginning old new (take n (first ++ rest))
begun_before old new n first rest begun =
    subst (AppendsBeginning old new) (sym (take_both n first rest)) (beginning_of_first old new (take n first) (take (n - length first) rest) begun)

-- a beginning of zero bytes, up to `n` bytes
pub begun_zeros_before : (old new : Option (List ℕ)) (n count some : ℕ) (rest : List ℕ) → some ≡ min count n → AppendsBeginning old new (zeros some)
    → AppendsBeginning old new (take n (zeros count ++ rest))
begun_zeros_before old new n count some rest is begun =
    begun_before old new n (zeros count) rest (subst (AppendsBeginning old new) (ap zeros is ∙ sym (take_zeros n count)) begun)

-- zero bytes were written up to `n` bytes, and then `next` up to what is left
pub part_written : {E : Type 0} (old mid new : Option (List ℕ)) (n count some left : ℕ) (next : List ℕ) (result : Result ℕ E) → some ≡ min count n → left ≡ n - some
    → Appends old mid (zeros some) → IsWritten mid new left next result → IsWritten old new n (zeros count ++ next) result
part_written old mid new n count some left next (Ok more) is left_is written now =
    let first = subst (Appends old mid) (ap zeros is ∙ sym (take_zeros n count)) written in
    let long : length (zeros count) ≡ count = length-replicate count 0 in
    let less : left ≡ n - length (zeros count) = omega arith in
    more_written old mid new n left (zeros count) next first less more now.0 now.1
part_written old mid new n count some left next (Err e) is left_is written now =
    let first = subst (Appends old mid) (ap zeros is ∙ sym (take_zeros n count)) written in
    let long : length (zeros count) ≡ count = length-replicate count 0 in
    let less : left ≡ n - length (zeros count) = omega arith in
    subst (λ l. AppendsBeginning old new (take n l)) (append-nil (zeros count ++ next)) (begun old mid new n left (zeros count) next first less [] now)

filled_is : (n left : ℕ) (bytes : List ℕ) → left ≡ n - length bytes → take n bytes ++ zeros left ≡ take n (bytes ++ zeros n)
filled_is n left bytes is =
    ap (λ l. take n bytes ++ l) (sym (take-replicate left n 0 (omega arith))) ∙ ap (λ k. take n bytes ++ take k (zeros n)) is ∙ sym (take_both n bytes (zeros n))

-- all bytes were written up to `n` bytes, and then zero bytes
pub filled_up : {T E : Type 0} (old mid new : Option (List ℕ)) (n left : ℕ) (bytes : List ℕ) (result : Result T E) → Appends old mid (take n bytes)
    → left ≡ n - length bytes → AreAllWritten mid new (zeros left) result → AreAllWritten old new (take n (bytes ++ zeros n)) result
filled_up old mid new n left bytes (Ok x) written is now =
    subst (Appends old new) (filled_is n left bytes is) (Appends-trans old mid new (take n bytes) (zeros left) written now)
filled_up old mid new n left bytes (Err e) written is now =
    subst (AppendsBeginning old new) (filled_is n left bytes is) (beginning_past_first old mid new (take n bytes) (zeros left) written now)
