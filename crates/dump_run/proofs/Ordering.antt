-- Counts that are in order, and the first that is not.
use Rattle.dump_run.proofs.Words.{◌≡◌, ◌⊎◌, inl, inr, ℕ, suc, ◌+◌, ◌<◌, ◌≤◌, List, [], ◌∷◌, ◌++◌, All, length, length-append, get_or, take, drop, map, Err, refl, sym, ◌∙◌, ap, subst, append_assoc, arith, append-nil, get_or_default, length-map, length-take-le, map-append, take-append-drop}
use Rattle.dump_run.proofs.Words.{flat_map-append, All-nil, All-cons, PlainRun, IsRun, AreNumbers, SpellsCheckpoint, HasLineOutOfOrder, HasResumeFault, head, joined, run_lines, count_line, checkpoint_lines, checkpoint_text, AreCounts, IsNext, AreOrdered, VolumeCount}
use Rattle.std.proofs.Math.Seq.{take-suc, drop-cons}
use Rattle.dump_run.specs.Counts.{IsCount, AreVolumes, checkpoint_after, checkpoint_of}
use Rattle.dump_run.proofs.OneText.{all_good, past_head, same_text, no_bad_line}
use Rattle.dump_run.specs.declared.fault.ResumeFault.{ResumeFault}
use Rattle.dump_run.specs.declared.fault.ResumeFault.TheVariants.{BadLine, NotInOrder, OutOfMemory}

-- numbers of volumes are within the limit, as each of them has a block, or is the only one
numbers_from : (run : PlainRun) (volume first : ℕ) (counts : List VolumeCount) → run.blocks ≤ 2147483647 → (counts ≡ []) ⊎ (volume ≤ first + 1)
    → AreVolumes run volume first counts → All AreNumbers counts
numbers_from run volume first [] limit at v = All-nil AreNumbers
numbers_from run volume first (c ∷ counts) limit at v =
    let low : volume ≤ first + 1 = grind (arith, at) in
    All-cons AreNumbers c counts (record { volume = omega (arith, v.0, v.2.0, v.2.1); first = omega (arith, v.1, v.2.0); count = omega (arith, v.2.0) })
    (numbers_from run (volume + 1) (first + c.count) counts limit (grind (arith, low, v.2, v.3)) v.4)

pub volumes_numbers : (run : PlainRun) (counts : List VolumeCount) → IsRun run → AreVolumes run 1 0 counts → All AreNumbers counts
volumes_numbers run counts is v = numbers_from run 1 0 counts is.blocks (inr (omega arith)) v

-- the count `c` follows `counts`, whose checkpoint is `at`
pub record Follows (run : PlainRun) (counts : List VolumeCount) (at : ℕ × ℕ) (c : VolumeCount) : Type 0 where
  pub volume : c.volume ≡ at.0
  pub first : c.first ≡ at.1
  pub count : IsCount run at.1 c.count
  pub left : (counts ≡ []) ⊎ (at.1 < run.blocks)

pub volumes_more : (run : PlainRun) (volume first : ℕ) (counts : List VolumeCount) (c : VolumeCount) → AreVolumes run volume first counts
    → Follows run counts (checkpoint_after volume first counts) c → AreVolumes run volume first (counts ++ c ∷ [])
volumes_more run volume first [] c v f = (f.volume, f.first, f.count, inl refl, tt)
volumes_more run volume first (d ∷ counts) c v f =
    let g = rw (v.0, v.1) at f in
    let some : (checkpoint_after (volume + 1) (first + d.count) counts).1 < run.blocks = grind (arith, g.left) in (
      v.0,
      v.1,
      v.2,
      inr (grind (arith, v.3, some)),
      volumes_more run (volume + 1) (first + d.count) counts c v.4 (record { volume = g.volume; first = g.first; count = g.count; left = inr some }),
    )

pub volumes_last : (run : PlainRun) (volume first : ℕ) (counts : List VolumeCount) (c : VolumeCount) → AreVolumes run volume first (counts ++ c ∷ [])
    → Follows run counts (checkpoint_after volume first counts) c
volumes_last run volume first [] c v = record { volume = v.0; first = v.1; count = v.2; left = inl refl }
volumes_last run volume first (d ∷ counts) c v =
    let f = volumes_last run (volume + 1) (first + d.count) counts c v.4 in
    let some : first + d.count < run.blocks = elim v.3 [ inl none ↦ absurd (omega (arith, ap length none, length-append counts (c ∷ []))) | inr some ↦ some ] in
    rw (v.0, v.1) (record { volume = f.volume; first = f.first; count = f.count; left = inr (grind (arith, some, f.left)) })

-- those that begin volumes in order are in order
pub volumes_begun : (run : PlainRun) (volume first : ℕ) (counts more : List VolumeCount) → AreVolumes run volume first (counts ++ more) → AreVolumes run volume first counts
volumes_begun run volume first [] more v = tt
volumes_begun run volume first (c ∷ counts) more v =
    (v.0, v.1, v.2, begun_left counts v.3, volumes_begun run (volume + 1) (first + c.count) counts more v.4)
  where
    begun_left : (cs : List VolumeCount) → (cs ++ more ≡ []) ⊎ (first + c.count < run.blocks) → (cs ≡ []) ⊎ (first + c.count < run.blocks)
    begun_left [] left = inl refl
    begun_left (d ∷ ds) left = grind (arith, left)

-- the checkpoint is after the last count
pub checkpoint_behind : (volume first : ℕ) (rest : List VolumeCount) (c : VolumeCount) → checkpoint_after volume first (rest ++ c ∷ []) ≡ (c.volume + 1, c.first + c.count)
checkpoint_behind volume first [] c = refl
checkpoint_behind volume first (r ∷ rest) c = checkpoint_behind (r.volume + 1) (r.first + r.count) rest c

abbrev pub zero_count : VolumeCount
zero_count = record { volume = 0; first = 0; count = 0 }

pub listed_there : (counts : List VolumeCount) (at : ℕ) → at < length counts → get_or counts at zero_count ≡ get_or counts at (get_or counts at zero_count)
listed_there counts at there = get_or_default counts at zero_count (get_or counts at zero_count) there

-- so many counts are in order, and after them this block is the next
pub record IsUpTo (run : PlainRun) (counts : List VolumeCount) (at first : ℕ) : Type 0 where
  pub volumes : AreVolumes run 1 0 (take at counts)
  pub next : checkpoint_of (take at counts) ≡ (at + 1, first)
  pub within : first ≤ run.blocks

more_taken : (counts : List VolumeCount) (at : ℕ) (c : VolumeCount) → at < length counts → c ≡ get_or counts at c → take (at + 1) counts ≡ take at counts ++ c ∷ []
more_taken counts at c there is = grind (arith, is, take-suc counts at c there)

pub up_to_more : (run : PlainRun) (counts : List VolumeCount) (at first : ℕ) (c : VolumeCount) → at < length counts → c ≡ get_or counts at c
    → IsUpTo run counts at first → IsNext run.blocks (at + 1) first c → IsUpTo run counts (at + 1) (first + c.count)
up_to_more run counts at first c there is up n =
    let more = more_taken counts at c there is in
    let left : (take at counts ≡ []) ⊎ (first < run.blocks) = grind (arith, n.4) in
    let f : Follows run (take at counts) (at + 1, first) c = record { volume = n.0; first = n.1; count = (n.2, n.3); left = left } in
    record {
      volumes = rw more (volumes_more run 1 0 (take at counts) c up.volumes (rw up.next f));
      next = ap checkpoint_of more ∙ checkpoint_behind 1 0 (take at counts) c ∙ grind (arith, n.0, n.1);
      within = n.2;
    }

pub not_next : (run : PlainRun) (counts : List VolumeCount) (at first : ℕ) (c : VolumeCount) → at < length counts → c ≡ get_or counts at c
    → IsUpTo run counts at first → (IsNext run.blocks (at + 1) first c → ⊥) → AreVolumes run 1 0 (take (at + 1) counts) → ⊥
not_next run counts at first c there is up other volumes =
    let f = rw up.next at (volumes_last run 1 0 (take at counts) c (rw (more_taken counts at c there is) at volumes)) in
    let left : (at + 1 ≡ 1) ⊎ (first < run.blocks) = grind (arith, f.left, length-take-le at counts (omega (arith, there))) in
    other (f.volume, f.first, f.count.0, f.count.1, left)

-- a text whose lines have their shape, and which of its lines is at fault
pub whole_text : (bytes rest : List ℕ) (run : PlainRun) (counts : List VolumeCount) → bytes ≡ joined (run_lines run) ++ rest → rest ≡ joined (map count_line counts)
    → bytes ≡ checkpoint_text run counts
whole_text bytes rest run counts is more = simp (is, more, flat_map-append)

pub refused_counts : (bytes rest : List ℕ) (run : PlainRun) (fault : ResumeFault) → IsRun run → bytes ≡ joined (run_lines run) ++ rest → AreCounts rest (Err fault)
    → HasResumeFault bytes fault
refused_counts bytes rest run (BadLine n) limits is b =
    let lines = checkpoint_lines run b.counts in
    let many : length lines ≡ 8 + length b.counts = omega (arith, length-append (run_lines run) (map count_line b.counts), length-map b.counts count_line) in
    record {
      before = lines;
      rest = b.rest;
      split = is ∙ ap (λ l. joined (run_lines run) ++ l) b.split ∙ sym (append_assoc (joined (run_lines run)) _ b.rest)
          ∙ ap (λ l. l ++ b.rest) (whole_text _ _ run b.counts refl refl);
      good = all_good run b.counts limits b.good;
      bad = rw (past_head head lines (omega (arith, many))) b.bad;
      number = omega (arith, many, b.number);
    }
refused_counts bytes rest run (NotInOrder n) limits is bad = absurd bad
refused_counts bytes rest run OutOfMemory limits is bad = tt

pub out_of_order : (bytes : List ℕ) (run : PlainRun) (counts : List VolumeCount) (n : ℕ) → IsRun run → All AreNumbers counts → bytes ≡ checkpoint_text run counts
    → AreOrdered run counts n → n < length counts → HasLineOutOfOrder bytes (8 + n + 1)
out_of_order bytes run counts n limits few is o there =
    let c = get_or counts n zero_count in
    let all : counts ≡ take n counts ++ c ∷ drop (suc n) counts = sym (take-append-drop n counts) ∙ ap (λ l. take n counts ++ l) (drop-cons counts n zero_count there) in
    record {
      run = run;
      before = take n counts;
      count = c;
      after = drop (suc n) counts;
      limits = limits;
      numbers = subst (All AreNumbers) all few;
      spelled = is ∙ ap (checkpoint_text run) all;
      good = o.1;
      bad = λ v. o.2 there (rw (more_taken counts n c there (listed_there counts n there)) v);
      number = omega (arith, length-take-le n counts (omega (arith, there)));
    }

-- the line of one more count
pub line_more : (old text now new line : List ℕ) (counts : List VolumeCount) (i : ℕ) (c : VolumeCount) → i < length counts → c ≡ get_or counts i c
    → now ≡ old ++ (text ++ joined (map count_line (take i counts))) → new ≡ now ++ line → line ≡ count_line c ++ 10 ∷ []
    → new ≡ old ++ (text ++ joined (map count_line (take (i + 1) counts)))
line_more old text now new line counts i c there is before more its =
    let taken = more_taken counts i c there is in
    simp (more, before, its, taken, map-append, flat_map-append, append-nil, append_assoc)

-- one text, one run and one list
pub one_checkpoint : (bytes : List ℕ) (r s : PlainRun) (counts others : List VolumeCount) → SpellsCheckpoint bytes r counts → SpellsCheckpoint bytes s others
    → (r ≡ s) × (counts ≡ others)
one_checkpoint bytes r s counts others a b =
    same_text r s counts others a.limits b.limits (volumes_numbers r counts a.limits a.in_order) (volumes_numbers s others b.limits b.in_order) (sym a.text ∙ b.text)

in_order_there : (r : PlainRun) (counts : List VolumeCount) (n : ℕ) (bytes : List ℕ) → SpellsCheckpoint bytes r counts → HasLineOutOfOrder bytes n → ⊥
in_order_there r counts n bytes a b =
    let same = same_text r b.run counts (b.before ++ b.count ∷ b.after) a.limits b.limits (volumes_numbers r counts a.limits a.in_order) b.numbers (sym a.text ∙ b.spelled) in
    let there : AreVolumes b.run 1 0 (b.before ++ b.count ∷ b.after) = rw (← same.1, ← same.0) a.in_order in
    b.bad (volumes_begun b.run 1 0 (b.before ++ b.count ∷ []) b.after (rw append_assoc there))

pub one_fault : (bytes : List ℕ) (r : PlainRun) (counts : List VolumeCount) (fault : ResumeFault) → SpellsCheckpoint bytes r counts → HasResumeFault bytes fault
    → fault ≡ OutOfMemory
one_fault bytes r counts (BadLine n) a bad =
    absurd (no_bad_line r counts n a.limits (volumes_numbers r counts a.limits a.in_order) (rw a.text at bad))
one_fault bytes r counts (NotInOrder n) a bad = absurd (in_order_there r counts n bytes a bad)
one_fault bytes r counts OutOfMemory a bad = refl
