-- The buffer of a reader, once bytes were written behind those that it keeps.
use Rattle.rmt_wire.proofs.Words.{List, ap, arith, length, length-append, take, ℕ, ◌++◌, ◌+◌, ◌∙◌, ◌≡◌, ◌≤◌, take-append-add, take-append-le, take-take}

-- what a write leaves after the bytes kept, cut to what came
pub read_behind : (old front buf post rest items : List ℕ) (len count most : ℕ) → items ≡ take (len + count) (take most ((front ++ (buf ++ post)) ++ rest))
    → len ≡ length old → front ≡ old
    → count ≤ length buf → length old + count ≤ most → items ≡ old ++ take count buf
read_behind old front buf post rest items len count most is e same within fits =
    is ∙ take-take (len + count) most _ (omega arith) ∙ ap (λ l. take (len + count) ((l ++ (buf ++ post)) ++ rest)) same
    ∙ take-append-le (len + count) (old ++ (buf ++ post)) rest (omega (arith, length-append old (buf ++ post), length-append buf post))
    ∙ ap (λ n. take (n + count) (old ++ (buf ++ post))) e ∙ take-append-add old (buf ++ post) count ∙ ap (λ l. old ++ l) (take-append-le count buf post within)
