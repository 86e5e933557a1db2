-- A text of a run and of counts is that of no other, and each of its lines has its shape.
use Rattle.dump_run.proofs.Words.{true, ◌≡◌, ℕ, ◌<◌, ◌≤◌, ◌^◌, List, [], ◌∷◌, ◌++◌, length, map, codes, decimal, All, refl, sym, ap, subst, ◌∙◌, append_assoc, length-append, arith, append-nil, All-head, All-tail, RECORD_LIMIT, PlainRun, IsRun, plain_run, Kind, head, joined, run_lines, count_line}
use Rattle.dump_run.proofs.Words.{count_text, checkpoint_lines, checkpoint_text, AreNumbers, IsNumberLine, IsLineOf, AreLinesOf, kind_after, HasBadLine, Title, Device, Name, Level, Date, Since, Block, Blocks, Counted, NoFeed, VolumeCount}
use Rattle.dump_run.proofs.FieldCut.{value_of, one_cut, same_rest, device_lacks, name_lacks, lacks_decimal, lacks_append, count_lacks, is_clean, word_lacks, number_lacks}

-- no line feed is in a line
number_line_lacks : (word line : List ℕ) (least most : ℕ) → is_clean word ≡ true → most < 2 ^ 64 → IsNumberLine word least most line → NoFeed line
number_line_lacks word line least most clean limit (n, within, is) = rw is (number_lacks word n clean (omega (arith, within.1, limit)))

line_lacks : (kind : Kind) (line : List ℕ) → IsLineOf kind line → NoFeed line
line_lacks Title line is = rw is (word_lacks (codes "rdump 1") refl)
line_lacks Device line (device, its, is) = rw is (lacks_append 10 (codes "device ") device (word_lacks (codes "device ") refl) (device_lacks device its))
line_lacks Name line (name, its, is) = rw is (lacks_append 10 (codes "fs ") name (word_lacks (codes "fs ") refl) (name_lacks name its))
line_lacks Level line its = number_line_lacks (codes "level ") line 0 9 refl (omega arith) its
line_lacks Date line its = number_line_lacks (codes "date ") line 0 253402300799 refl (omega arith) its
line_lacks Since line its = number_line_lacks (codes "since ") line 0 253402300799 refl (omega arith) its
line_lacks Block line its = number_line_lacks (codes "block ") line 1 RECORD_LIMIT refl (omega arith) its
line_lacks Blocks line its = number_line_lacks (codes "blocks ") line 0 2147483647 refl (omega arith) its
line_lacks Counted line (c, few, is) = rw is (lacks_append 10 (codes "counted ") (count_text c) (word_lacks (codes "counted ") refl) (count_lacks c few))

-- lines that begin the same bytes are the same
begun : (kinds : List Kind) (before lines : List (List ℕ)) (rest : List ℕ) → AreLinesOf kinds before → AreLinesOf kinds lines
    → joined lines ≡ joined before ++ rest → (more : List (List ℕ)) × (lines ≡ before ++ more) × (rest ≡ joined more)
begun kinds [] lines rest good its is = (lines, refl, sym is)
begun kinds (b ∷ bs) [] rest good its is = absurd (omega (arith, simp length-append at (ap length is)))
begun [] (b ∷ bs) (l ∷ ls) rest good its is =
    let one = one_cut 10 l b (joined ls) (joined bs ++ rest) (line_lacks Counted l its.0) (line_lacks Counted b good.0) (simp append_assoc at is) in
    let others = begun [] bs ls rest good.1 its.1 one.1 in
    (others.0, cc, others.2)
begun (k ∷ ks) (b ∷ bs) (l ∷ ls) rest good its is =
    let one = one_cut 10 l b (joined ls) (joined bs ++ rest) (line_lacks k l its.0) (line_lacks k b good.0) (simp append_assoc at is) in
    let others = begun ks bs ls rest good.1 its.1 one.1 in
    (others.0, cc, others.2)

pub counts_good : (counts : List VolumeCount) → All AreNumbers counts → AreLinesOf [] (map count_line counts)
counts_good [] few = tt
counts_good (c ∷ cs) few = ((c, All-head AreNumbers c cs few, refl), counts_good cs (All-tail AreNumbers c cs few))

pub all_good : (r : PlainRun) (counts : List VolumeCount) → IsRun r → All AreNumbers counts → AreLinesOf head (checkpoint_lines r counts)
all_good r counts run few = grind (arith, run, counts_good counts few)

-- the kind of the line that follows
next_kind : (kinds : List Kind) (before : List (List ℕ)) (line : List ℕ) (more : List (List ℕ)) → AreLinesOf kinds (before ++ line ∷ more) → IsLineOf (kind_after kinds before) line
next_kind kinds [] line more good = grind (arith, good)
next_kind [] (b ∷ bs) line more good = next_kind [] bs line more good.1
next_kind (k ∷ ks) (b ∷ bs) line more good = next_kind ks bs line more good.1

-- all lines of the head were read
pub past_head : (kinds : List Kind) (lines : List (List ℕ)) → length kinds ≤ length lines → kind_after kinds lines ≡ Counted
past_head [] lines long = refl
past_head (k ∷ ks) [] long = absurd (omega arith)
past_head (k ∷ ks) (l ∷ ls) long = past_head ks ls (omega (arith, long))

no_more : (r : PlainRun) (counts : List VolumeCount) (n : ℕ) (more : List (List ℕ)) → IsRun r → All AreNumbers counts → (bad : HasBadLine (checkpoint_text r counts) n)
    → checkpoint_lines r counts ≡ bad.before ++ more → bad.rest ≡ joined more → ⊥
no_more r counts n [] run few bad lines rest =
    let all : checkpoint_lines r counts ≡ bad.before = lines ∙ append-nil bad.before in
    bad.bad.1 (past_head head bad.before (omega (arith, ap length all, length-append (run_lines r) (map count_line counts)))) rest
no_more r counts n (l ∷ ls) run few bad lines rest =
    bad.bad.0 l (joined ls) (next_kind head bad.before l ls (subst (AreLinesOf head) lines (all_good r counts run few))) (rest ∙ append_assoc l (10 ∷ []) (joined ls))

pub no_bad_line : (r : PlainRun) (counts : List VolumeCount) (n : ℕ) → IsRun r → All AreNumbers counts → HasBadLine (checkpoint_text r counts) n → ⊥
no_bad_line r counts n run few bad =
    let b = begun head bad.before (checkpoint_lines r counts) bad.rest bad.good (all_good r counts run few) bad.split in
    no_more r counts n b.0 run few bad b.1 b.2

-- the same text has the same lines
no_lines : (lines : List (List ℕ)) → [] ≡ joined lines → lines ≡ []
no_lines [] is = refl
no_lines (l ∷ ls) is = absurd (omega (arith, simp length-append at (ap length is)))

same_lines : (r s : PlainRun) (counts others : List VolumeCount) → IsRun r → IsRun s → All AreNumbers counts → All AreNumbers others
    → checkpoint_text r counts ≡ checkpoint_text s others → checkpoint_lines r counts ≡ checkpoint_lines s others
same_lines r s counts others run its few small is =
    let b = begun head (checkpoint_lines s others) (checkpoint_lines r counts) [] (all_good s others its small) (all_good r counts run few)
    (is ∙ sym (append-nil (checkpoint_text s others))) in
    b.1 ∙ ap (λ l. checkpoint_lines s others ++ l) (no_lines b.0 b.2) ∙ append-nil (checkpoint_lines s others)

abbrev volume_count : ℕ → ℕ → ℕ → VolumeCount
volume_count volume first count = record { volume = volume; first = first; count = count }

one_count : (c d : VolumeCount) → AreNumbers c → AreNumbers d → count_line c ≡ count_line d → c ≡ d
one_count c d few small is =
    let text = same_rest (codes "counted ") (count_text c) (count_text d) is in
    let a = one_cut 32 (decimal c.volume) (decimal d.volume) (decimal c.first ++ 32 ∷ decimal c.count) (decimal d.first ++ 32 ∷ decimal d.count)
    (lacks_decimal 32 c.volume (omega arith) (omega (arith, few.volume))) (lacks_decimal 32 d.volume (omega arith) (omega (arith, small.volume))) text in
    let b = one_cut 32 (decimal c.first) (decimal d.first) (decimal c.count) (decimal d.count)
    (lacks_decimal 32 c.first (omega arith) (omega (arith, few.first))) (lacks_decimal 32 d.first (omega arith) (omega (arith, small.first))) a.1 in
    let whole : volume_count c.volume c.first c.count ≡ volume_count d.volume d.first d.count = grind (arith, value_of, few, small, a.0, b.0, b.1) in whole

all_counts : (counts others : List VolumeCount) → All AreNumbers counts → All AreNumbers others → map count_line counts ≡ map count_line others → counts ≡ others
all_counts [] [] few small is = refl
all_counts [] (d ∷ ds) few small is = cc
all_counts (c ∷ cs) [] few small is = cc
all_counts (c ∷ cs) (d ∷ ds) few small is =
    cc (one_count c d (All-head AreNumbers c cs few) (All-head AreNumbers d ds small) (cc), all_counts cs ds (All-tail AreNumbers c cs few) (All-tail AreNumbers d ds small) (cc))

pub same_text : (r s : PlainRun) (counts others : List VolumeCount) → IsRun r → IsRun s → All AreNumbers counts → All AreNumbers others
    → checkpoint_text r counts ≡ checkpoint_text s others → (r ≡ s) × (counts ≡ others)
same_text r s counts others run its few small is =
    let lines = same_lines r s counts others run its few small is in
    let whole : plain_run r.device r.name r.level r.date r.since r.block_bytes r.blocks ≡ plain_run s.device s.name s.level s.date s.since s.block_bytes s.blocks =
    grind (arith, value_of, run, its, lines) in
    (whole, all_counts counts others few small (cc))
