-- Lines that were read, and the first that is bad.
use Rattle.dump_run.proofs.Words.{arith, ◌≡◌, ℕ, ◌+◌, List, [], ◌∷◌, ◌++◌, length, codes, decimal, refl, ap, ◌∙◌, append_assoc, IsInRange, append-nil, flat_map-append, IsName, IsDevice, Kind, head, joined, IsNumberLine, IsLineOf, AreLinesOf, kind_after, LacksLine, HasBadLine}

-- these lines were read, each of its kind
pub record IsRead (bytes : List ℕ) (before : List (List ℕ)) (rest : List ℕ) : Type 0 where
  pub split : bytes ≡ joined before ++ rest
  pub good : AreLinesOf head before

pub nothing_read : (bytes : List ℕ) → IsRead bytes [] bytes
nothing_read bytes = record { split = refl; good = tt }

one_more : (kinds : List Kind) (before : List (List ℕ)) (line : List ℕ) → AreLinesOf kinds before → IsLineOf (kind_after kinds before) line
    → AreLinesOf kinds (before ++ line ∷ [])
one_more kinds [] line good its = grind (arith, its)
one_more [] (l ∷ ls) line good its = (good.0, one_more [] ls line good.1 its)
one_more (k ∷ ks) (l ∷ ls) line good its = (good.0, one_more ks ls line good.1 its)

pub joined_more : (before : List (List ℕ)) (line more : List ℕ) → joined before ++ (line ++ 10 ∷ more) ≡ joined (before ++ line ∷ []) ++ more
joined_more before line more = simp (flat_map-append, append-nil, append_assoc)

pub then_line : {bytes : List ℕ} {before : List (List ℕ)} {rest : List ℕ} (line more : List ℕ) → IsRead bytes before rest → IsLineOf (kind_after head before) line
    → rest ≡ line ++ 10 ∷ more → IsRead bytes (before ++ line ∷ []) more
then_line {bytes} {before} {rest} line more r its is = record {
  split = r.split ∙ ap (λ l. joined before ++ l) is ∙ joined_more before line more;
  good = one_more head before line r.good its;
}

pub bad_line : {bytes : List ℕ} {before : List (List ℕ)} {rest : List ℕ} (n : ℕ) → IsRead bytes before rest → LacksLine (kind_after head before) rest
    → n ≡ length before + 1 → HasBadLine bytes n
bad_line {bytes} {before} {rest} n r lacks is = record { before = before; rest = rest; split = r.split; good = r.good; bad = lacks; number = is }

-- the title, the device, the name and a number
pub then_title : (bytes rest : List ℕ) → bytes ≡ codes "rdump 1" ++ 10 ∷ rest → IsRead bytes (codes "rdump 1" ∷ []) rest
then_title bytes rest is = then_line (codes "rdump 1") rest (nothing_read bytes) refl is

pub then_device : {bytes first : List ℕ} (device rest : List ℕ) → bytes ≡ codes "rdump 1" ++ 10 ∷ first
    → IsDevice device × (first ≡ (codes "device " ++ device) ++ 10 ∷ rest) → IsRead bytes (codes "rdump 1" ∷ (codes "device " ++ device) ∷ []) rest
then_device device rest title found = then_line (codes "device " ++ device) rest (then_title _ _ title) (device, found.0, refl) found.1

pub then_name : {bytes first second : List ℕ} (device name rest : List ℕ) → bytes ≡ codes "rdump 1" ++ 10 ∷ first
    → IsDevice device × (first ≡ (codes "device " ++ device) ++ 10 ∷ second) → IsName name × (second ≡ (codes "fs " ++ name) ++ 10 ∷ rest)
    → IsRead bytes (codes "rdump 1" ∷ (codes "device " ++ device) ∷ (codes "fs " ++ name) ∷ []) rest
then_name device name rest title its found = then_line (codes "fs " ++ name) rest (then_device device _ title its) (name, found.0, refl) found.1

pub then_number : {bytes rest : List ℕ} {before : List (List ℕ)} {least most : ℕ} (word : List ℕ) (n : ℕ) (more : List ℕ) → IsRead bytes before rest
    → (IsNumberLine word least most (word ++ decimal n) → IsLineOf (kind_after head before) (word ++ decimal n))
    → IsInRange least most n × (rest ≡ (word ++ decimal n) ++ 10 ∷ more) → IsRead bytes (before ++ (word ++ decimal n) ∷ []) more
then_number word n more r says found = then_line (word ++ decimal n) more r (says (n, found.0, refl)) found.1
