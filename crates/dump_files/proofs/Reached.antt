-- A text that spells entries has a line that is one, with none before it.
use Rattle.std.proofs.Common.{◌≡◌, ℕ, List, [], ◌∷◌, ◌++◌, length, ◌+◌, refl, ap, inl, inr}
use Rattle.dumpdates.specs.Entry.{DatesEntry}
use Rattle.dumpdates.specs.Lines.{lines_of, SpellLines, SpellsDates, IsEntryLine, HasDatesFault}
use Rattle.dumpdates.specs.declared.fault.DatesFault.TheVariants.{OutOfMemory}

-- the first line that is an entry, among lines that spell some
reached : (lines : List (List ℕ)) (entries : List DatesEntry) → SpellLines lines entries → (entries ≡ [] → ⊥)
    → (before : List (List ℕ)) × (line : List ℕ) × (after : List (List ℕ)) × SpellLines before [] × (lines ≡ before ++ line ∷ after) × IsEntryLine line
reached [] entries none some = absurd (some none)
reached (line ∷ lines) entries (inl (blank, spelled)) some =
    let r = reached lines entries spelled some in (line ∷ r.0, r.1, r.2, inl (blank, r.3), ap (λ ls. line ∷ ls) r.4, r.5)
reached (line ∷ lines) entries (inr (e, later, spelled, joined, rest)) some = ([], line, lines, refl, refl, (e, spelled))

-- where there are entries, memory could be wanted
pub memory_wanted : (bytes : List ℕ) (entries : List DatesEntry) → SpellsDates bytes entries → (entries ≡ [] → ⊥) → HasDatesFault bytes OutOfMemory
memory_wanted bytes entries spelled some =
    let r = reached (lines_of bytes) entries spelled some in
    (length r.0 + 1, record { before = r.0; line = r.1; after = r.2; entries = []; split = r.4; number = refl; good = r.3; kind = r.5 })
