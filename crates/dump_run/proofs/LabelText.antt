-- The numbers of a label are short, and zero bytes follow the text of a label.
use Rattle.dump_run.proofs.Words.{◌≡◌, ℕ, ◌+◌, ◌-◌, ◌≤◌, List, length, drop, replicate, decimal, sym, ◌∙◌, ap, arith, length-decimal-le, drop-drop, drop-replicate}
use Rattle.std.proofs.lemmas.Slice.{drop-put_mid}
use borrow.Rule.Slice.PartMut.{put_mid}

-- a number of a line has at most twelve digits
pub line_number_is_short : (n : ℕ) → n ≤ 999999999999 → length (decimal n) ≤ 12
line_number_is_short n small = length-decimal-le 12 n (omega arith) (omega arith) (omega arith)

-- a text that is written over zero bytes leaves the others after it
pub zeros_behind : (end next k : ℕ) (bytes text : List ℕ) → next ≡ end + k → length text ≡ k → next ≤ 1024 → length bytes ≡ 1024
    → drop end bytes ≡ replicate (1024 - end) 0 → drop next (put_mid end k bytes text) ≡ replicate (1024 - next) 0
zeros_behind end next k bytes text at long fits all zeros =
    let left : 1024 - end - k ≡ 1024 - next = omega arith in
    drop-put_mid end k bytes text next (omega arith) (omega arith) long ∙ ap (λ n. drop n bytes) at ∙ sym (drop-drop k end bytes)
    ∙ ap (λ l. drop k l) zeros ∙ drop-replicate k (1024 - end) 0 ∙ ap (λ n. replicate n 0) left
