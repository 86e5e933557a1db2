-- A record that is no label of a volume comes next.
use Rattle.volume_check.proofs.Words.{◌≡◌, ◌≢◌, inl, inr, ℕ, List, [], ◌∷◌, ◌++◌, length, refl, ap, ◌∙◌, append_assoc, map, PlainEntry, Record}
use Rattle.volume_check.proofs.Words.{IsHolding, Holding, Volume}
use Rattle.dump_run.proofs.LabelReading.{other_length}
use Rattle.volume_check.specs.declared.holding.Holding.TheVariants as holding

-- what is no volume stays none
foreign_more : (entries : List PlainEntry) (next : PlainEntry) → IsHolding holding.Foreign entries → IsHolding holding.Foreign (entries ++ next ∷ [])
foreign_more entries next (inl m) = inl (record { rest = m.rest ++ next ∷ []; whole = ap (λ es. es ++ next ∷ []) m.whole })
foreign_more entries next (inr (inl r)) =
    inr (inl (record { bytes = r.bytes; rest = r.rest ++ next ∷ []; whole = ap (λ es. es ++ next ∷ []) r.whole; no_label = r.no_label }))
foreign_more entries next (inr (inr t)) = inr (inr (record {
  label = t.label;
  first = t.first;
  blocks = t.blocks;
  other = t.other;
  rest = t.rest ++ next ∷ [];
  whole = ap (λ es. es ++ next ∷ []) t.whole ∙ rw (append_assoc (map Record (t.first ∷ t.blocks)) (Record t.other ∷ t.rest) (next ∷ [])) refl;
  is_label = t.is_label;
  same = t.same;
  differs = t.differs;
}))

pub other_more : (h : Holding) (len : ℕ) (bytes : List ℕ) (entries : List PlainEntry) → (h ≡ holding.Empty → len ≢ 1024)
    → ((v : Volume) → h ≢ holding.Volume v) → len ≡ length bytes → IsHolding h entries → IsHolding holding.Foreign (entries ++ Record bytes ∷ [])
other_more holding.Empty len bytes entries other none is held =
    let no_label = other_length bytes (λ long. other refl (is ∙ long)) in
    inr (inl (record { bytes = bytes; rest = []; whole = ap (λ es. es ++ Record bytes ∷ []) held; no_label = no_label }))
other_more (holding.Volume v) len bytes entries other none is held = absurd (none v refl)
other_more holding.Foreign len bytes entries other none is held = foreign_more entries (Record bytes) held
