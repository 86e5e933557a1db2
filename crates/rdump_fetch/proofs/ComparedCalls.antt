-- The calls of a comparing sink, over a whole list of them.
use Rattle.std.proofs.Common.{◌≡◌, ◌≢◌, inl, inr, ℕ, ◌+◌, Bool, true, false, List, [], ◌∷◌, ◌++◌, Option, Some, None, refl, sym, ap, subst, append_assoc, map, arith, ◌∙◌}
use Rattle.std.specs.List.{All}
use Rattle.std.proofs.lemmas.List.Elements.{All-head, All-tail}
use Rattle.tape.specs.Tape.{PlainEntry, IsRecord}
use Rattle.tape.specs.Tape.PlainEntry.{Record, Mark as TapeMark}
use Rattle.dump_run.specs.Label.{PlainLabel, IsLabel, ReadsLabel, label_record}
use Rattle.rdump_net.specs.Sink.{SinkCall, Takes, blocks_from}
use Rattle.rdump_net.specs.Sink.SinkCall.{Label, Block, Mark, Complete}
use Rattle.rdump_net.specs.Sink.Takes.{nothing, accepted, stopped}
use Rattle.catalog.specs.declared.line.CatalogLine.{CatalogLine}
use Rattle.catalog.specs.Verdict.{IsVerdict}
use Rattle.catalog.specs.declared.verdict.SumVerdict.{SumVerdict}
use Rattle.catalog.specs.declared.verdict.SumVerdict.TheVariants.{Equal, Differs, Anew, Void, Unknown}
use Rattle.volume_check.specs.Volume.{file_sum}
use Rattle.volume_check.specs.Hashing.{HoldsEntries}
use Rattle.rdump_fetch.specs.Comparing.{Compared, ComparedStep, IsComparedAs, IsRefused}
use Rattle.rdump_fetch.specs.ComparedVolume.{PassesOn, HasNotDiffered, volume_calls, volume_entries}

-- a record is the label of one volume at most
abbrev pub OneLabel : Type 0
OneLabel = (l m : PlainLabel) → IsLabel l → IsLabel m → label_record l ≡ label_record m → l ≡ m

-- the first of some calls that were all accepted, and those after it
first_call : {S : Type 0} (takes : S → S → SinkCall → Bool → Type 0) (s t : S) (calls : List SinkCall) (whole : Bool) (call : SinkCall) (more : List SinkCall)
    → Takes takes s t calls whole → calls ≡ call ∷ more → whole ≡ true → (u : S) × takes s u call true × Takes takes u t more true
first_call takes s t calls whole call more nothing is all = absurd (cc)
first_call {S} takes s t calls whole call more (accepted {t = u} {call = c} {calls = cs} step rest) is all =
    let one : c ≡ call = cc in
    let others : cs ≡ more = cc in (
      u,
      subst (λ (k : SinkCall). takes s u k true) one step,
      subst (λ (w : Bool). Takes takes u t more w) all (subst (λ (ks : List SinkCall). Takes takes u t ks whole) others rest),
    )
first_call takes s t calls whole call more (stopped step) is all = absurd (cc)

-- no calls leave a sink as it was
no_call : {S : Type 0} (takes : S → S → SinkCall → Bool → Type 0) (s t : S) (calls : List SinkCall) (whole : Bool)
    → Takes takes s t calls whole → calls ≡ [] → s ≡ t
no_call takes s t calls whole nothing is = refl
no_call takes s t calls whole (accepted step rest) is = absurd (cc)
no_call takes s t calls whole (stopped step) is = absurd (cc)

-- the label of a volume is read as it is
label_is : OneLabel → (l : PlainLabel) → IsLabel l → (read : Option PlainLabel) → ReadsLabel (label_record l) read → read ≡ Some l
label_is one l lawful (Some m) reads = ap Some (sym (one l m lawful reads.0 reads.1))
label_is one l lawful None reads = absurd (reads l lawful refl)

module _ {S : Type 0} (takes : S → S → SinkCall → Bool → Type 0) where
  -- the inner sink accepted a call that was accepted
  step_passes : (s t : Compared S) (call : SinkCall) → ComparedStep takes s t call true → takes s.sink t.sink call true
  step_passes s t (Label bytes) step = step.0
  step_passes s t (Block number bytes) step = step.0
  step_passes s t Mark step = step.0
  step_passes s t Complete step = step.3.0

  -- a call that was not accepted
  stop_passes : (s t : Compared S) (call : SinkCall) → ComparedStep takes s t call false → PassesOn takes s t (call ∷ []) false
  stop_passes s t (Label bytes) step = inl (stopped step.0)
  stop_passes s t (Block number bytes) step = inl (stopped step.0)
  stop_passes s t Mark step = inl (stopped step.0)
  stop_passes s t Complete step =
      elim step.3 [
        | inl refused ↦ inl (stopped refused.0)
        | inr differs ↦ inr ([], refl, subst (λ (k : S). Takes takes s.sink k [] true) (sym differs.1) nothing, differs.0)
      ]

  -- a call that was accepted, and the calls after it
  go_passes : (s u t : Compared S) (call : SinkCall) (calls : List SinkCall) (whole : Bool) → takes s.sink u.sink call true
      → PassesOn takes u t calls whole → PassesOn takes s t (call ∷ calls) whole
  go_passes s u t call calls true step rest = accepted step rest
  go_passes s u t call calls false step rest =
      elim rest [
        | inl refused ↦ inl (accepted step refused)
        | inr differs ↦ inr (call ∷ differs.0, ap (λ l. call ∷ l) differs.1, accepted step differs.2, differs.3)
      ]

  -- all calls
  pub passes : (s t : Compared S) (calls : List SinkCall) (whole : Bool) → Takes (ComparedStep takes) s t calls whole → PassesOn takes s t calls whole
  passes s t calls whole nothing = nothing
  passes s t calls whole (accepted {t = u} {call = call} {calls = more} step rest) =
      go_passes s u t call more whole (step_passes s u call step) (passes u t more whole rest)
  passes s t calls whole (stopped {call = call} step) = stop_passes s t call step

  -- the verdict of a sink that has completed
  judged : (t : Compared S) (lines : List CatalogLine) (l : PlainLabel) (sum : List ℕ) (verdict : SumVerdict)
      → t.verdict ≡ Some verdict → (IsRefused (Some verdict) → ⊥) → IsVerdict lines l sum verdict → HasNotDiffered lines l sum t
  judged t lines l sum Equal is fits found = (Equal, is, found, inl refl)
  judged t lines l sum Unknown is fits found = (Unknown, is, found, inr refl)
  judged t lines l sum Differs is fits found = absurd (fits tt)
  judged t lines l sum Anew is fits found = absurd (fits tt)
  judged t lines l sum Void is fits found = absurd (fits tt)

  completed : (s t : Compared S) (lines : List CatalogLine) (l : PlainLabel) (entries : List PlainEntry) (verdict : Option SumVerdict)
      → t.verdict ≡ verdict → (IsRefused verdict → ⊥) → s.sums ≡ Some lines → s.label ≡ Some l → HoldsEntries s.hasher entries
      → IsComparedAs s verdict → HasNotDiffered lines l (file_sum entries) t
  completed s t lines l entries None is fits sums label holds (inl none) = absurd (cc)
  completed s t lines l entries None is fits sums label holds (inr none) = absurd (cc)
  completed s t lines l entries (Some verdict) is fits sums label holds found =
      let same : found.0 ≡ lines = cc in
      let of : found.1 ≡ l = cc in
      let known : IsVerdict lines l (file_sum entries) verdict
      = subst (λ (m : PlainLabel). IsVerdict lines m (file_sum entries) verdict) of
      (subst (λ (ls : List CatalogLine). IsVerdict ls found.1 (file_sum entries) verdict) same (found.4 entries holds)) in
      judged t lines l (file_sum entries) verdict is fits known

  -- the mark and `Complete`
  ends : (s t : Compared S) (lines : List CatalogLine) (l : PlainLabel) (entries : List PlainEntry) → s.sums ≡ Some lines → s.label ≡ Some l
      → HoldsEntries s.hasher entries → Takes (ComparedStep takes) s t (Mark ∷ Complete ∷ []) true
      → HasNotDiffered lines l (file_sum (entries ++ TapeMark ∷ [])) t
  ends s t lines l entries sums label holds calls =
      let mark = first_call (ComparedStep takes) s t (Mark ∷ Complete ∷ []) true Mark (Complete ∷ []) calls refl refl in
      let u = mark.0 in
      let marked = mark.1 in
      let complete = first_call (ComparedStep takes) u t (Complete ∷ []) true Complete [] mark.2 refl refl in
      let v = complete.0 in
      let last : v ≡ t = no_call (ComparedStep takes) v t [] true complete.2 refl in
      let step : ComparedStep takes u t Complete true = subst (λ (w : Compared S). ComparedStep takes u w Complete true) last complete.1 in
      let us : u.sums ≡ Some lines = marked.1.0 ∙ sums in
      let ul : u.label ≡ Some l = marked.1.1 ∙ label in
      completed u t lines l (entries ++ TapeMark ∷ []) t.verdict refl step.3.1 us ul (marked.2 entries holds) step.2

  -- the records after the label, and what follows them
  blocks_kept : (s t : Compared S) (lines : List CatalogLine) (l : PlainLabel) (entries : List PlainEntry) (n : ℕ) (more : List (List ℕ))
      → s.sums ≡ Some lines → s.label ≡ Some l → HoldsEntries s.hasher entries → All IsRecord more
      → Takes (ComparedStep takes) s t (blocks_from n more ++ Mark ∷ Complete ∷ []) true
      → HasNotDiffered lines l (file_sum (entries ++ (map Record more ++ TapeMark ∷ []))) t
  blocks_kept s t lines l entries n [] sums label holds records calls = ends s t lines l entries sums label holds calls
  blocks_kept s t lines l entries n ([] ∷ more) sums label holds records calls =
      let empty : IsRecord [] = All-head IsRecord [] more records in absurd (omega arith)
  blocks_kept s t lines l entries n ((b ∷ bytes) ∷ more) sums label holds records calls =
      let block = first_call (ComparedStep takes) s t (Block n (b ∷ bytes) ∷ (blocks_from (n + 1) more ++ Mark ∷ Complete ∷ [])) true
      (Block n (b ∷ bytes)) (blocks_from (n + 1) more ++ Mark ∷ Complete ∷ []) calls refl refl in
      let u = block.0 in
      let step = block.1 in
      let some : s.sums ≢ None = λ none. absurd (cc) in
      let added : HoldsEntries u.hasher (entries ++ Record (b ∷ bytes) ∷ []) = step.2 some (All-head IsRecord (b ∷ bytes) more records) entries holds in
      let us : u.sums ≡ Some lines = step.1.0 ∙ sums in
      let ul : u.label ≡ Some l = step.1.1 ∙ label in
      subst (λ (es : List PlainEntry). HasNotDiffered lines l (file_sum es) t)
      (append_assoc entries (Record (b ∷ bytes) ∷ []) (map Record more ++ TapeMark ∷ []))
      (blocks_kept u t lines l (entries ++ Record (b ∷ bytes) ∷ []) (n + 1) more us ul added (All-tail IsRecord (b ∷ bytes) more records) block.2)

  -- a whole volume
  pub kept : OneLabel → (s t : Compared S) (lines : List CatalogLine) (l : PlainLabel) (more : List (List ℕ)) → s.sums ≡ Some lines → IsLabel l
      → All IsRecord (label_record l ∷ more) → Takes (ComparedStep takes) s t (volume_calls l more) true
      → HasNotDiffered lines l (file_sum (volume_entries l more)) t
  kept one s t lines l more sums lawful records calls =
      let begun = first_call (ComparedStep takes) s t (volume_calls l more) true (Label (label_record l))
      (blocks_from 0 more ++ Mark ∷ Complete ∷ []) calls refl refl in
      let u = begun.0 in
      let is = begun.1.1 in
      let some : s.sums ≢ None = λ none. absurd (cc) in
      let us : u.sums ≡ Some lines = is.0 ∙ sums in
      blocks_kept u t lines l (Record (label_record l) ∷ []) 0 more us (label_is one l lawful u.label is.1) (is.3 some (All-head IsRecord (label_record l) more records))
      (All-tail IsRecord (label_record l) more records) begun.2
