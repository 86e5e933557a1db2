-- A walk along a record file: one entry further, and where it ends.
use Rattle.tape.proofs.Words.{◌≡◌, ◌⊎◌, ℕ, zero, suc, ◌+◌, ◌-◌, ◌<◌, Bool, true, false, List, [], ◌∷◌, Some, sym, ap, ◌∙◌, arith, if◌then◌else◌, take-append_seam, drop-append_seam, sum_by-cons, PlainEntry, Record, Mark, Tape, tape, stands_at, mark_count, marks_met, records_met, passed_for_marks, passed_for_records, IsFile, IsPassed, HasPassed, IsWalked, HasWalkedMarks, HasWalkedRecords, ahead, place_after, PassedEntry, Walked, Way}

-- a tape is at the place after 0 entries
stands_here : (way : Way) (before after : List PlainEntry) → stands_at (place_after way 0 (tape before after)) (tape before after) ≡ tape before after
stands_here way before after = grind (arith, take-append_seam before after, drop-append_seam before after)

-- a walk that ends where it stands, and one that passes an entry first
walk_end : {way : Way} {left met far : ℕ} {x : List ℕ} {t : Tape} {at : ℕ} → IsFile x at t → far ≡ 0 → left - met ≡ left
    → IsWalked way left met far x t at left
walk_end {way = way} {t = t} file none same =
    record { to = t; file = file; place = rw none (sym (stands_here way t.before t.after)); left_is = sym same }

walk_on : {way : Way} {left left' met met' far far' : ℕ} {x : List ℕ} {t u : Tape} {is_mark : Bool} {at end : ℕ} → IsPassed way t is_mark u
    → (far ≡ 1 + far') × (left - met ≡ left' - met') → IsWalked way left' met' far' x u at end → IsWalked way left met far x t at end
walk_on {far' = far'} p counts w = record { to = w.to; file = w.file; place = cc (p.place far'); left_is = w.left_is ∙ sym counts.1 }

-- an entry on the way to marks, and on the way to records, where a mark ends the walk
on_to_marks : (left left' : ℕ) (e : PlainEntry) (rest : List PlainEntry) → 0 < left → left ≡ left' + mark_count e
    → (passed_for_marks left (e ∷ rest) ≡ 1 + passed_for_marks left' rest) × (left - marks_met (e ∷ rest) ≡ left' - marks_met rest)
on_to_marks zero left' e rest some less = absurd (omega arith)
on_to_marks (suc n) left' (Record bytes) rest some less = let same : suc n ≡ left' = omega arith in grind arith
on_to_marks (suc n) left' Mark rest some less = let same : n ≡ left' = omega arith in grind (arith, sum_by-cons mark_count Mark rest)

on_to_records : (left : ℕ) (e : PlainEntry) (rest : List PlainEntry) → 0 < left → mark_count e ≡ 0
    → (passed_for_records left (e ∷ rest) ≡ 1 + passed_for_records (left - 1) rest) × (left - records_met (e ∷ rest) ≡ left - 1 - records_met rest)
on_to_records zero e rest some is = absurd (omega arith)
on_to_records (suc n) e rest some is = grind arith

mark_of_records : (left : ℕ) (e : PlainEntry) (rest : List PlainEntry) → 0 < left → mark_count e ≡ 1
    → (passed_for_records left (e ∷ rest) ≡ 1 + 0) × (left - records_met (e ∷ rest) ≡ left - 0)
mark_of_records zero e rest some is = absurd (omega arith)
mark_of_records (suc n) e rest some is = grind arith

-- nothing is passed where nothing is left of the way or of the count
none_left : (left : ℕ) (way : List PlainEntry) → (left ≡ 0) ⊎ (way ≡ [])
    → (passed_for_marks left way ≡ 0) × (left - marks_met way ≡ left) × (passed_for_records left way ≡ 0) × (left - records_met way ≡ left)
none_left left way none = grind arith

module _ {x : List ℕ} {way : Way} where
  pub marks_end : {t : Tape} {at : ℕ} (left : ℕ) → IsFile x at t → (left ≡ 0) ⊎ (ahead way t ≡ [])
      → HasWalkedMarks way left x t (record { at = at; left = left })
  marks_end {t} left file none = let n = none_left left (ahead way t) none in walk_end file n.0 n.1

  pub records_end : {t : Tape} {at : ℕ} (left : ℕ) → IsFile x at t → (left ≡ 0) ⊎ (ahead way t ≡ [])
      → HasWalkedRecords way left x t (record { at = at; left = left })
  records_end {t} left file none = let n = none_left left (ahead way t) none in walk_end file n.2 n.3

  pub marks_on : {left left' : ℕ} {t u : Tape} {is_mark : Bool} {walked : Walked} → 0 < left → left ≡ left' + (if is_mark then 1 else 0)
      → IsPassed way t is_mark u
      → HasWalkedMarks way left' x u walked → HasWalkedMarks way left x t walked
  marks_on {left} {left'} {t} {u} some less p w =
      walk_on p (grind (arith, p.way_is, on_to_marks left left' p.entry (ahead way u) some (less ∙ ap (λ n. left' + n) (sym p.mark)))) w

  pub records_on : {left : ℕ} {t u : Tape} {walked : Walked} → 0 < left → IsPassed way t false u
      → HasWalkedRecords way (left - 1) x u walked → HasWalkedRecords way left x t walked
  records_on {left} {t} {u} some p w = walk_on p (grind (arith, p.way_is, on_to_records left p.entry (ahead way u) some p.mark)) w

  pub mark_ends : {left : ℕ} {t u : Tape} {at : ℕ} → 0 < left → IsPassed way t true u → IsFile x at u
      → HasWalkedRecords way left x t (record { at = at; left = left })
  mark_ends {left} {t} {u} some p file =
      walk_on p (grind (arith, p.way_is, mark_of_records left p.entry (ahead way u) some p.mark))
      (walk_end {left = left} {met = 0} {far = 0} file (omega arith) (omega arith))

-- The walk came to this offset with so much of the count left: what is walked from there on is walked for the whole count.
abbrev pub Goes : (ℕ → List ℕ → Tape → Walked → Type 0) → ℕ → ℕ → ℕ → ℕ → List ℕ → Type 0
Goes walks count offset left at x =
    (t : Tape) → IsFile x offset t → (u : Tape) × IsFile x at u × ((walked : Walked) → walks left x u walked → walks count x t walked)

-- the walk passes one entry more
pub goes_on : {count offset left left' at : ℕ} {x : List ℕ} {way : Way} (walks : ℕ → List ℕ → Tape → Walked → Type 0) (passed : PassedEntry)
    → Goes walks count offset left at x → ((t : Tape) → IsFile x at t → HasPassed way x t (Some passed))
    → ((t u : Tape) (walked : Walked) → IsPassed way t passed.is_mark u → walks left' x u walked → walks left x t walked)
    → Goes walks count offset left' passed.at x
goes_on walks passed goes found on t file =
    let w = goes t file in
    let p = found w.0 w.1 in
    (p.0, p.1, λ walked k. w.2 walked (on w.0 p.0 walked p.2 k))

-- and it ends
pub goes_end : {count offset left at : ℕ} {x : List ℕ} (walks : ℕ → List ℕ → Tape → Walked → Type 0) (walked : Walked)
    → Goes walks count offset left at x
    → ((t : Tape) → IsFile x at t → walks left x t walked) → (t : Tape) → IsFile x offset t → walks count x t walked
goes_end walks walked goes ends t file = let w = goes t file in w.2 walked (ends w.0 w.1)
