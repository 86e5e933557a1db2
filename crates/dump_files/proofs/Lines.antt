-- The lines of a catalog that count for a dump.
use Rattle.std.proofs.Common.{◌≡◌, ◌↔◌, ℕ, ◌+◌, ◌≤◌, Bool, false, IsTrue, List, [], ◌∷◌, ◌++◌, Some, None, drop, get_or, length, Result, Ok, Err, Vec, Global, inl, inr, refl, sym, ap, subst, ◌∙◌, arith}
use Rattle.std.proofs.lemmas.Bool.{true≢false}
use Rattle.dump_run.specs.DumpId.{PlainId}
use Rattle.dump_run.specs.Run.{PlainRun, id_of_run}
use Rattle.dump_run.specs.declared.count.VolumeCount.{VolumeCount}
use Rattle.whole_files.specs.WholeFile.{WholeFileKind}
use Rattle.catalog.specs.DumpLines.{PlainBegun, PlainFinished}
use Rattle.catalog.specs.Line.{line_text}
use Rattle.catalog.specs.Run.{Begins, HasBegun, HasNone, IsFinishedBy, IsInForce, IsLast, IsPastBegun, IsRunIn, IsUpTo}
use Rattle.catalog.specs.SumLine.{PlainSumLine}
use Rattle.catalog.specs.declared.line.CatalogLine.{CatalogLine}
use Rattle.catalog.specs.declared.line.CatalogLine.TheVariants.{Begun, Volume, Finished}
use Rattle.catalog.specs.declared.run.CatalogRun.{CatalogRun}
use Rattle.catalog.specs.Catalog.{SpellsCatalog}
use Rattle.dump_files.specs.Entering.{IsCatalogRead, IsEntered, IsPut}
use Rattle.dump_files.specs.declared.catalog_update.EnterFault.{EnterFault}
use Rattle.dump_files.specs.declared.catalog_update.EnterFault.TheVariants.{Unread, Catalog, Unwritten}
use Rattle.dump_files.specs.declared.catalog_update.Entered.{Entered}
use Rattle.dump_files.specs.declared.catalog_update.Entered.TheVariants.{Added, There, Another, Uncovered}
use Rattle.dump_files.specs.Counted.{HasCountIn, HasCountLine, IsCountLine}

-- one more line with which the dump begins
pub begun_more : (id : PlainId) (lines : List CatalogLine) (b : PlainBegun) (count : ℕ) → b.id ≡ id → HasBegun id lines count
    → HasBegun id (lines ++ Begun b ∷ []) (count + 1)
begun_more id [] b count is h = inl (is, (count, refl, h))
begun_more id (l ∷ ls) b count is (inl h) = inl (h.0, (h.1.0 + 1, ap (λ n. n + 1) h.1.1, begun_more id ls b h.1.0 is h.1.2))
begun_more id (l ∷ ls) b count is (inr h) = inr (h.0, begun_more id ls b count is h.1)

-- there are no more of them than lines
pub begun_few : (id : PlainId) (lines : List CatalogLine) (count : ℕ) → HasBegun id lines count → count ≤ length lines
begun_few id [] count h = omega (arith, h)
begun_few id (l ∷ ls) count (inl h) = let few = begun_few id ls h.1.0 h.1.2 in omega (arith, few, h.1.1)
begun_few id (l ∷ ls) count (inr h) = let few = begun_few id ls count h.1 in omega (arith, few)

-- there is one number of them
pub one_begun : (id : PlainId) (lines : List CatalogLine) (count other : ℕ) → HasBegun id lines count → HasBegun id lines other → count ≡ other
one_begun id [] count other h k = h ∙ sym k
one_begun id (l ∷ ls) count other (inl h) (inl k) = h.1.1 ∙ ap (λ n. n + 1) (one_begun id ls h.1.0 k.1.0 h.1.2 k.1.2) ∙ sym k.1.1
one_begun id (l ∷ ls) count other (inl h) (inr k) = absurd (k.0 h.0)
one_begun id (l ∷ ls) count other (inr h) (inl k) = absurd (h.0 k.0)
one_begun id (l ∷ ls) count other (inr h) (inr k) = one_begun id ls count other h.1 k.1

none_last : (Kind : CatalogLine → Type 0) (lines : List CatalogLine) (at : ℕ) → HasNone Kind lines → IsLast Kind lines at → ⊥
none_last Kind [] at none last = omega (arith, last.within)
none_last Kind (l ∷ ls) at none last = none at l last.within (last.is l)

one_last : (Kind : CatalogLine → Type 0) (lines : List CatalogLine) (at to : ℕ) (l : CatalogLine) → IsLast Kind lines at → IsLast Kind lines to → at ≡ to
one_last Kind lines at to l a b = grind (arith, a.last to l, b.last at l, a.within, b.within, a.is l, b.is l)

-- one line of a volume is in force
one_in_force : (after : List CatalogLine) (id : PlainId) (v w : PlainSumLine) → IsInForce after id v → IsInForce after id w → v.label.volume ≡ w.label.volume → v ≡ w
one_in_force after id v w first second same =
    let last = subst (λ n. IsLast (IsUpTo id n) after second.0) (sym same) second.1 in
    let at = one_last (IsUpTo id v.label.volume) after first.0 second.0 (Volume v) first.1 last in
    let both : Volume v ≡ Volume w = sym (first.2 (Volume v)) ∙ ap (λ k. get_or after k (Volume v)) at ∙ second.2 (Volume v) in cc

-- one line says that the dump is finished
one_finished : (after : List CatalogLine) (id : PlainId) (f g : PlainFinished) → IsFinishedBy after id f → IsFinishedBy after id g → f ≡ g
one_finished after id f g first second =
    let at = one_last (IsPastBegun id) after first.0 second.0 (Finished f) first.1 second.1 in
    let both : Finished f ≡ Finished g = sym (first.2 (Finished f)) ∙ ap (λ k. get_or after k (Finished f)) at ∙ second.2 (Finished f) in cc

-- the dump of a run is the one that was looked for
run_id : (lines : List CatalogLine) (id : PlainId) (run : CatalogRun) → IsRunIn lines id (Some run) → run.begun.now.id ≡ id
run_id lines id run h = subst (λ l. Begins id l) (h.2 (Begun run.begun.now)) (h.1.is (Begun run.begun.now))

-- the lines of a run are those of another run of the same dump
one_run : (lines : List CatalogLine) (id : PlainId) (r q : CatalogRun) → IsRunIn lines id (Some r) → IsRunIn lines id (Some q) → r.after.now ≡ q.after.now
one_run lines id r q a b =
    let at = one_last (Begins id) lines a.0 b.0 (Begun r.begun.now) a.1 b.1 in a.3 ∙ ap (λ n. drop (n + 1) lines) at ∙ sym b.3

-- what holds of the lines of one run of a dump holds of those of any
pub by_run : (Holds : List CatalogLine → PlainId → Type 0) (lines : List CatalogLine) (id : PlainId) (run : CatalogRun) (is : Bool)
    → IsRunIn lines id (Some run) → IsTrue is ↔ Holds run.after.now run.begun.now.id
    → IsTrue is ↔ ((lately : CatalogRun) × IsRunIn lines id (Some lately) × Holds lately.after.now id)
by_run Holds lines id run is found told =
    let same = run_id lines id run found in (
      λ yes. (run, found, subst (λ i. Holds run.after.now i) same (told.0 yes)),
      λ has. told.1 (subst (λ i. Holds run.after.now i) (sym same) (subst (λ a. Holds a id) (sym (one_run lines id run has.0 found has.1)) has.2)),
    )

pub by_no_run : (Holds : List CatalogLine → PlainId → Type 0) (lines : List CatalogLine) (id : PlainId) → IsRunIn lines id None
    → IsTrue false ↔ ((lately : CatalogRun) × IsRunIn lines id (Some lately) × Holds lately.after.now id)
by_no_run Holds lines id none = (λ yes. absurd (true≢false (sym yes)), λ has. absurd (none_last (Begins id) lines has.1.0 none has.1.1))

-- a line of a volume is in force, if the one that is in force is equal to it
pub stands_by : (after : List CatalogLine) (id : PlainId) (n : ℕ) (held v : PlainSumLine) (is : Bool) → n ≡ v.label.volume → IsInForce after id held
    → held.label.volume ≡ n → IsTrue is ↔ (held ≡ v) → IsTrue is ↔ IsInForce after id v
stands_by after id n held v is n_is found number told = (
  λ yes. subst (λ w. IsInForce after id w) (told.0 yes) found,
  λ has. told.1 (one_in_force after id held v found has (number ∙ n_is)),
)

pub none_stands : (after : List CatalogLine) (id : PlainId) (n : ℕ) (v : PlainSumLine) → n ≡ v.label.volume
    → ((w : PlainSumLine) → IsInForce after id w → w.label.volume ≡ n → ⊥) → IsTrue false ↔ IsInForce after id v
none_stands after id n v n_is none = (λ yes. absurd (true≢false (sym yes)), λ has. absurd (none v has (sym n_is)))

pub finished_by : (after : List CatalogLine) (id : PlainId) (held f : PlainFinished) (is : Bool) → IsFinishedBy after id held → IsTrue is ↔ (held ≡ f)
    → IsTrue is ↔ IsFinishedBy after id f
finished_by after id held f is found told = (
  λ yes. subst (λ g. IsFinishedBy after id g) (told.0 yes) found,
  λ has. told.1 (one_finished after id held f found has),
)

pub none_finished : (after : List CatalogLine) (id : PlainId) (f : PlainFinished) → ((g : PlainFinished) → IsFinishedBy after id g → ⊥)
    → IsTrue false ↔ IsFinishedBy after id f
none_finished after id f none = (λ yes. absurd (true≢false (sym yes)), λ has. absurd (none f has))

-- a counted volume has a line in force, if the one that is in force is its line
pub counted_by : (after : List CatalogLine) (id : PlainId) (run : PlainRun) (count : VolumeCount) (held : PlainSumLine) (is : Bool) → IsInForce after id held
    → held.label.volume ≡ count.volume → IsTrue is ↔ IsCountLine run count held → IsTrue is ↔ HasCountIn after id run count
counted_by after id run count held is found number told = (
  λ yes. (held, found, told.0 yes),
  λ has.
      (let same = one_in_force after id held has.0 found has.1 (number ∙ sym (ap (λ l. l.volume) has.2.label)) in
      told.1 (subst (λ v. IsCountLine run count v) (sym same) has.2)),
)

pub none_counted : (after : List CatalogLine) (id : PlainId) (run : PlainRun) (count : VolumeCount)
    → ((v : PlainSumLine) → IsInForce after id v → v.label.volume ≡ count.volume → ⊥) → IsTrue false ↔ HasCountIn after id run count
none_counted after id run count none = (
  λ yes. absurd (true≢false (sym yes)),
  λ has. absurd (none has.0 has.1 (ap (λ l. l.volume) has.2.label)),
)

-- the same of the whole catalog
pub known_by : (lines : List CatalogLine) (run : PlainRun) (count : VolumeCount) (id : PlainId) (lately : CatalogRun) (is : Bool) → id ≡ id_of_run run
    → IsRunIn lines id (Some lately) → IsTrue is ↔ HasCountIn lately.after.now lately.begun.now.id run count → IsTrue is ↔ HasCountLine lines run count
known_by lines run count id lately is same found told =
    let ours : IsRunIn lines (id_of_run run) (Some lately) = subst (λ i. IsRunIn lines i (Some lately)) same found in
    let both = by_run (λ after i. HasCountIn after i run count) lines (id_of_run run) lately is ours told in (
      λ yes. (let has = both.0 yes in record { lately = has.0; begun = has.1; counted = has.2 }),
      λ has. both.1 (has.lately, has.begun, has.counted),
    )

pub none_known : (lines : List CatalogLine) (run : PlainRun) (count : VolumeCount) (id : PlainId) → id ≡ id_of_run run → IsRunIn lines id None
    → IsTrue false ↔ HasCountLine lines run count
none_known lines run count id same none =
    let both = by_no_run (λ after i. HasCountIn after i run count) lines (id_of_run run) (subst (λ i. IsRunIn lines i None) same none) in (
      λ yes. absurd (true≢false (sym yes)),
      λ has. absurd (true≢false (sym (both.1 (has.lately, has.begun, has.counted)))),
    )

-- no number but one is that of the lines with which the dump began
pub not_begun : (lines : List CatalogLine) (id own : PlainId) (count begun : ℕ) → id ≡ own → HasBegun id lines count → (count ≡ begun → ⊥) → HasBegun own lines begun → ⊥
not_begun lines id own count begun same has differs other =
    differs (one_begun own lines count begun (subst (λ i. HasBegun i lines count) same has) other)

-- one more line, with which the dump of this line begins
pub begun_after : (lines : List CatalogLine) (line : PlainBegun) (id : PlainId) (count begun : ℕ) → id ≡ line.id → HasBegun id lines count → begun ≡ count + 1
    → HasBegun line.id (lines ++ Begun line ∷ []) begun
begun_after lines line id count begun same has more =
    subst (λ n. HasBegun line.id (lines ++ Begun line ∷ []) n) (sym more)
    (begun_more line.id lines line count refl (subst (λ i. HasBegun i lines count) same has))

-- the text with the line replaced the file
pub was_put : {F : Type 0} (k : WholeFileKind F) (line : CatalogLine) (text : List ℕ) (old new : F) (entered : Entered) → IsPut k line text old new (Ok entered)
    → k.takes old (text ++ line_text line) (Ok tt) new
was_put k line text old new Added put = put
was_put k line text old new There put = absurd put
was_put k line text old new Another put = absurd put
was_put k line text old new Uncovered put = absurd put

-- a line that is to be added was entered, or could not be
pub entered_with : {F : Type 0} (k : WholeFileKind F) (Decides : List CatalogLine → Entered → Type 0) (line : CatalogLine) (text : Vec ℕ Global)
    (lines : List CatalogLine) (old between new : F) (result : Result Entered EnterFault) → IsCatalogRead k old between (Ok (text, lines)) → Decides lines Added
    → IsPut k line text.items between new result → IsEntered k Decides line old new result
entered_with k Decides line text lines old between new (Ok Added) (bytes, gives, same, spelled) decides put =
    inl (bytes, between, gives, (lines, subst (λ t. SpellsCatalog t lines) same spelled, decides, subst (λ t. k.takes between (t ++ line_text line) (Ok tt) new) same put))
entered_with k Decides line text lines old between new (Ok There) read decides put = absurd put
entered_with k Decides line text lines old between new (Ok Another) read decides put = absurd put
entered_with k Decides line text lines old between new (Ok Uncovered) read decides put = absurd put
entered_with k Decides line text lines old between new (Err Unwritten) (bytes, gives, same, spelled) decides (failed, takes) =
    inl (bytes, between, gives, (lines, subst (λ t. SpellsCatalog t lines) same spelled, decides, (failed, subst (λ t. k.takes between (t ++ line_text line) (Err failed) new) same takes)))
entered_with k Decides line text lines old between new (Err (Catalog fault)) (bytes, gives, same, spelled) decides put = inl (bytes, between, gives, (put.0, rw put.1 tt))
entered_with k Decides line text lines old between new (Err Unread) read decides put = absurd put
