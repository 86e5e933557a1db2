-- The calls of a whole volume of a sink that copies it, and what the copy holds then.
use Rattle.std.proofs.Common.{◌≡◌, ◌≢◌, inl, inr, ℕ, ◌+◌, Bool, true, false, List, [], ◌∷◌, ◌++◌, Option, Some, None, Result, refl, sym, ap, subst, append_assoc, map, arith, ◌∙◌}
use Rattle.std.proofs.lemmas.List.{append-nil}
use Rattle.std.specs.List.{All}
use Rattle.std.proofs.lemmas.List.Elements.{All-cons, All-nil}
use Rattle.tape.specs.Tape.{PlainEntry, IsRecord}
use Rattle.tape.specs.Tape.PlainEntry.{Record, Mark as TapeMark}
use Rattle.tape.specs.RecordFile.{image_of, images_of}
use Rattle.rmt_wire.specs.Reply.{PlainReply}
use Rattle.rmt_wire.specs.Reply.PlainReply.{Data, Done, Error}
use Rattle.rmt_wire.specs.Request.{PlainRequest}
use Rattle.rmt_wire.specs.Request.PlainRequest.{Op}
use Rattle.rmt_wire.specs.declared.mtio.TheConstants.{MTOFFL}
use Rattle.dump_run.specs.Label.{PlainLabel, IsLabel, label_record}
use Rattle.remote_tape.specs.Search.{records_of}
use Rattle.remote_tape.specs.declared.peer.Passed.{Passed}
use Rattle.rdump_net.specs.Ends.{SinkEnds, sink_kind}
use Rattle.rdump_net.specs.Reading.{IsRead, IsEnding, IsTakenAwayOnlyIfKept, after_for_count, after_for_records, next_mark, next_of, next_read}
use Rattle.rdump_net.specs.Reading.IsEnding.{unasked, refused, accepted as completed_by}
use Rattle.rdump_net.specs.Sink.{SinkCall, Takes, blocks_from, calls_of}
use Rattle.rdump_net.specs.Sink.SinkCall.{Label, Block, Mark, Complete}
use Rattle.rdump_net.specs.Sink.Takes.{nothing, accepted, stopped}
use Rattle.rdump_net.specs.declared.fault.ReadFault.{ReadFault}
use Rattle.rdump_net.specs.declared.volume.AfterVolume.{AfterVolume}
use Rattle.rdump_net.specs.declared.volume.AfterVolume.TheVariants.{Stay, Offline}
use Rattle.catalog.specs.declared.line.CatalogLine.{CatalogLine}
use Rattle.volume_check.specs.Volume.{file_sum}
use Rattle.rdump_fetch.specs.Comparing.{Compared, ComparedStep}
use Rattle.rdump_fetch.specs.ComparedVolume.{HasNotDiffered, PassesOn, volume_calls, volume_entries}
use Rattle.rdump_fetch.specs.Copy.{PlainCopy, CopyKind, plain_copy, with_bytes}
use Rattle.rdump_fetch.specs.Sink.{CopyStep}
use Rattle.rdump_fetch.specs.Fetch.{HasKeptCopy, IsTakenAwayOnlyIfCopied, entries_read}

-- While the sink has not completed, no request takes the reel offline: none after the records, none after the label, and none at all.
never_marked : (goes : AfterVolume) (n : ℕ) (replies : List PlainReply) → next_mark goes false n replies ≢ Some (Op MTOFFL 1)
never_marked goes n replies e = grind arith

never_read : (after : AfterVolume) (n : ℕ) (replies : List PlainReply) → next_read after false n replies ≢ Some (Op MTOFFL 1)
never_read after n (Data [] ∷ replies) e = never_marked (after_for_count after n) n replies e
never_read after n (Data (b ∷ bytes) ∷ reads) e = never_read after (n + 1) reads e
never_read after n reads e = absurd cc

completed_so : (device : List ℕ) (after : AfterVolume) (completed : Bool) (before : List PlainReply)
    → next_of device after completed before ≡ Some (Op MTOFFL 1) → completed ≡ true
completed_so device after completed before e = grind (arith, never_read)

-- the first of some calls that were all accepted, and those after it
first_call : {S : Type 0} (takes : S → S → SinkCall → Bool → Type 0) (s t : S) (calls : List SinkCall) (whole : Bool) (call : SinkCall) (more : List SinkCall)
    → Takes takes s t calls whole → calls ≡ call ∷ more → whole ≡ true → (u : S) × takes s u call true × Takes takes u t more true
first_call takes s t calls whole call more nothing is all = absurd (cc)
first_call {S} takes s t calls whole call more (accepted {t = u} {call = c} {calls = cs} step rest) is all =
    let one : c ≡ call = cc in
    let others : cs ≡ more = cc in (
      u,
      subst (λ (k : SinkCall). takes s u k true) one step,
      subst (λ (w : Bool). Takes takes u t more w) all (subst (λ (ks : List SinkCall). Takes takes u t ks whole) others rest),
    )
first_call takes s t calls whole call more (stopped step) is all = absurd (cc)

-- no calls leave a sink as it was
no_call : {S : Type 0} (takes : S → S → SinkCall → Bool → Type 0) (s t : S) (calls : List SinkCall) (whole : Bool)
    → Takes takes s t calls whole → calls ≡ [] → s ≡ t
no_call takes s t calls whole nothing is = refl
no_call takes s t calls whole (accepted step rest) is = absurd (cc)
no_call takes s t calls whole (stopped step) is = absurd (cc)

-- the records before the first empty one
abbrev records_read : List (List ℕ) → List (List ℕ)
records_read [] = []
records_read ([] ∷ records) = []
records_read ((b ∷ bytes) ∷ records) = (b ∷ bytes) ∷ records_read records

-- they are given to a sink like all records
same_blocks : (n : ℕ) (records : List (List ℕ)) → blocks_from n records ≡ blocks_from n (records_read records)
same_blocks n [] = refl
same_blocks n ([] ∷ records) = refl
same_blocks n ((b ∷ bytes) ∷ records) = ap (λ calls. Block n (b ∷ bytes) ∷ calls) (same_blocks (n + 1) records)

-- their entries are those that were read
same_entries : (records : List (List ℕ)) → map Record (records_read records) ++ TapeMark ∷ [] ≡ entries_read records
same_entries [] = refl
same_entries ([] ∷ records) = refl
same_entries ((b ∷ bytes) ∷ records) = ap (λ entries. Record (b ∷ bytes) ∷ entries) (same_entries records)

module _ {F : Type 0} (k : CopyKind F) where
  -- the mark and `Complete`
  ends : (s t : F) (copy : PlainCopy) → k.holds s (Some copy) → Takes (CopyStep k) s t (Mark ∷ Complete ∷ []) true
      → k.kept t (plain_copy copy.label (copy.bytes ++ images_of (TapeMark ∷ [])))
  ends s t copy held calls =
      let mark = first_call (CopyStep k) s t (Mark ∷ Complete ∷ []) true Mark (Complete ∷ []) calls refl refl in
      let u = mark.0 in
      let complete = first_call (CopyStep k) u t (Complete ∷ []) true Complete [] mark.2 refl refl in
      let v = complete.0 in
      let last : v ≡ t = no_call (CopyStep k) v t [] true complete.2 refl in
      let held_u : k.holds u (Some copy) = subst (λ (w : F). k.holds w (Some copy)) (sym mark.1) held in
      let kept : k.kept t (with_bytes (image_of TapeMark) copy) = subst (λ (w : F). k.kept w (with_bytes (image_of TapeMark) copy)) last (complete.1 copy held_u) in
      subst (λ (bytes : List ℕ). k.kept t (plain_copy copy.label (copy.bytes ++ bytes))) (sym (append-nil (image_of TapeMark))) kept

  -- the records after the label, the mark and `Complete`
  copied_from : (s t : F) (n : ℕ) (records : List (List ℕ)) (copy : PlainCopy) → k.holds s (Some copy)
      → Takes (CopyStep k) s t (blocks_from n records ++ Mark ∷ Complete ∷ []) true
      → k.kept t (plain_copy copy.label (copy.bytes ++ images_of (entries_read records)))
  copied_from s t n [] copy held calls = ends s t copy held calls
  copied_from s t n ([] ∷ records) copy held calls = ends s t copy held calls
  copied_from s t n ((b ∷ bytes) ∷ records) copy held calls =
      let block = first_call (CopyStep k) s t (Block n (b ∷ bytes) ∷ (blocks_from (n + 1) records ++ Mark ∷ Complete ∷ [])) true
      (Block n (b ∷ bytes)) (blocks_from (n + 1) records ++ Mark ∷ Complete ∷ []) calls refl refl in
      let u = block.0 in
      let added = block.1.1 (Some copy) held in
      let more = with_bytes (image_of (Record (b ∷ bytes))) copy in
      let held_u : k.holds u (Some more) = subst (λ (c : Option PlainCopy). k.holds u c) added.2 added.1 in
      subst (λ (joined : List ℕ). k.kept t (plain_copy copy.label joined))
      (append_assoc copy.bytes (image_of (Record (b ∷ bytes))) (images_of (entries_read records)))
      (copied_from u t (n + 1) records more held_u block.2)

  -- each record that was given to the sink as a block is a record
  records_are : (s t : F) (n : ℕ) (records : List (List ℕ)) → Takes (CopyStep k) s t (blocks_from n records ++ Mark ∷ Complete ∷ []) true
      → All IsRecord (records_read records)
  records_are s t n [] calls = All-nil IsRecord
  records_are s t n ([] ∷ records) calls = All-nil IsRecord
  records_are s t n ((b ∷ bytes) ∷ records) calls =
      let block = first_call (CopyStep k) s t (Block n (b ∷ bytes) ∷ (blocks_from (n + 1) records ++ Mark ∷ Complete ∷ [])) true
      (Block n (b ∷ bytes)) (blocks_from (n + 1) records ++ Mark ∷ Complete ∷ []) calls refl refl in
      All-cons IsRecord (b ∷ bytes) (records_read records) block.1.0 (records_are block.0 t (n + 1) records block.2)

-- what the law of a comparing sink says
abbrev pub PassesAll : {S : Type 0} → (S → S → SinkCall → Bool → Type 0) → Type 0
PassesAll {S} takes = (s t : Compared S) (calls : List SinkCall) (whole : Bool) → Takes (ComparedStep takes) s t calls whole → PassesOn takes s t calls whole

abbrev pub ComparesAll : {S : Type 0} → (S → S → SinkCall → Bool → Type 0) → Type 0
ComparesAll {S} takes = (s t : Compared S) (lines : List CatalogLine) (l : PlainLabel) (more : List (List ℕ)) → s.sums ≡ Some lines → IsLabel l
    → All IsRecord (label_record l ∷ more) → Takes (ComparedStep takes) s t (volume_calls l more) true
    → HasNotDiffered lines l (file_sum (volume_entries l more)) t

module _ {F : Type 0} (k : CopyKind F) (passes : PassesAll (CopyStep k)) (compares : ComparesAll (CopyStep k)) where
  -- a whole volume
  copied : (s t : Compared F) (b : ℕ) (bytes : List ℕ) (records : List (List ℕ))
      → Takes (ComparedStep (CopyStep k)) s t (Label (b ∷ bytes) ∷ (blocks_from 0 records ++ Mark ∷ Complete ∷ [])) true
      → HasKeptCopy k s t ((b ∷ bytes) ∷ records)
  copied s t b bytes records calls =
      let inner : Takes (CopyStep k) s.sink t.sink (Label (b ∷ bytes) ∷ (blocks_from 0 records ++ Mark ∷ Complete ∷ [])) true
      = passes s t (Label (b ∷ bytes) ∷ (blocks_from 0 records ++ Mark ∷ Complete ∷ [])) true calls in
      let begun = first_call (CopyStep k) s.sink t.sink (Label (b ∷ bytes) ∷ (blocks_from 0 records ++ Mark ∷ Complete ∷ [])) true (Label (b ∷ bytes))
      (blocks_from 0 records ++ Mark ∷ Complete ∷ []) inner refl refl in
      let u = begun.0 in
      let l = begun.1.0 in
      let is_label = begun.1.1 in
      let is : b ∷ bytes ≡ label_record l = begun.1.2 in
      let is_record : IsRecord (b ∷ bytes) = begun.1.3 in
      let steps = begun.1.4 in
      let whole : (before : Option PlainCopy) → k.holds s.sink before → k.kept t.sink (plain_copy l (images_of (entries_read ((b ∷ bytes) ∷ records))))
      = λ before held.
      let made = steps before held in
      let first = plain_copy l (image_of (Record (b ∷ bytes))) in
      copied_from k u t.sink 0 records first (subst (λ (c : Option PlainCopy). k.holds u c) made.2 made.1) begun.2 in
      let all : All IsRecord (label_record l ∷ records_read records)
      = All-cons IsRecord (label_record l) (records_read records) (subst IsRecord is is_record) (records_are k u t.sink 0 records begun.2) in
      let as_volume : Takes (ComparedStep (CopyStep k)) s t (volume_calls l (records_read records)) true
      = subst (λ (r : List ℕ). Takes (ComparedStep (CopyStep k)) s t (Label r ∷ (blocks_from 0 (records_read records) ++ Mark ∷ Complete ∷ [])) true) is
      (subst (λ (blocks : List SinkCall). Takes (ComparedStep (CopyStep k)) s t (Label (b ∷ bytes) ∷ (blocks ++ Mark ∷ Complete ∷ [])) true)
      (same_blocks 0 records) calls) in
      let entries : volume_entries l (records_read records) ≡ entries_read ((b ∷ bytes) ∷ records)
      = subst (λ (r : List ℕ). Record r ∷ (map Record (records_read records) ++ TapeMark ∷ []) ≡ entries_read ((b ∷ bytes) ∷ records)) is
      (ap (λ (es : List PlainEntry). Record (b ∷ bytes) ∷ es) (same_entries records)) in
      record {
        label = l;
        is_label = is_label;
        more = records;
        begins = ap (λ (r : List ℕ). r ∷ records) is;
        copied = whole;
        compared = λ lines sums. subst (λ (es : List PlainEntry). HasNotDiffered lines l (file_sum es) t) entries
            (compares s t lines l (records_read records) sums is_label all as_volume);
      }

  -- the records that were read, if the sink completed
  copied_records : (s t : Compared F) (records : List (List ℕ)) → after_for_records Offline records ≢ Stay
      → Takes (ComparedStep (CopyStep k)) s t (calls_of records ++ Mark ∷ Complete ∷ []) true → HasKeptCopy k s t records
  copied_records s t [] goes calls = absurd (goes refl)
  copied_records s t ([] ∷ records) goes calls = absurd (goes refl)
  copied_records s t ((b ∷ bytes) ∷ records) goes calls = copied s t b bytes records calls

  -- a sink that completed was asked to, which it is only if the reel has a label
  goes_so : (next : List PlainReply → Option PlainRequest) (goes : AfterVolume) (replies : List PlainReply) (result : Result Unit ReadFault) (end : List SinkCall)
      (completed : Bool) → completed ≡ true → IsEnding next goes replies result end completed → goes ≢ Stay
  goes_so next goes replies result end completed is unasked = absurd (cc)
  goes_so next goes replies result end completed is (refused mark goes_on stops) = goes_on
  goes_so next goes replies result end completed is (completed_by mark goes_on whole) = goes_on

  pub taken_away_only_if_copied : {P : Type 0} (tells : P → List Passed → Type 0) (device : List ℕ) (old new : SinkEnds P (Compared F))
      (result : Result Unit ReadFault) → IsTakenAwayOnlyIfKept (sink_kind tells (ComparedStep (CopyStep k))) device Offline old new result
      → IsTakenAwayOnlyIfCopied (sink_kind tells (ComparedStep (CopyStep k))) k device old new result
  taken_away_only_if_copied tells device old new result kept = λ read before off.
      copied_records old.sink new.sink (records_of read.replies)
      (goes_so _ _ read.replies result read.end read.completed (completed_so device Offline read.completed before off) read.ending)
      (kept read before off)
