-- A volume that is read into a sink that prints its label, and writes the records after it.
use Rattle.std.specs.List.{concat}
use Rattle.rdump_net.proofs.Words.{arith, ◌≡◌, ◌⊎◌, inl, inr, ℕ, ◌+◌, List, [], ◌∷◌, Bool, true, false, ◌&&◌, Option, Result, refl, sym, ap, ◌∙◌, append-nil, IsPrinted, PlainReply, PlainRequest, copy_ends, copy_kind, sink_ends, sink_kind, after_for_records, records_of, label_text, file_bytes, is_whole, next_of, OnlyTheLastIsEmpty, IsEnding, IsRead, IsVolumeCopied, SinkCall, Takes, blocks_from, calls_of, Label, Block, ReadFault, Passed, AfterVolume, Stay}
use Rattle.rdump_net.specs.PrintingSink.{Keeps, TakesPrinted}
use Rattle.rdump_net.specs.declared.printing_sink.Outputs.{Outputs}
use Rattle.rdump_net.proofs.Printed.{nothing_printed, printed_both, printed_less}

module _ {S : Type 0} (takes : S → S → SinkCall → Bool → Type 0) where
  -- what is known of no calls
  none_taken : {s t : S} {calls : List SinkCall} {whole : Bool} → calls ≡ [] → Takes takes s t calls whole → (t ≡ s) × (whole ≡ true)
  none_taken e h = grind arith

  -- what is known of the first of some
  first_taken : {s u : S} {calls : List SinkCall} {whole : Bool} (call : SinkCall) (rest : List SinkCall) → calls ≡ call ∷ rest → Takes takes s u calls whole
      → ((t : S) × takes s t call true × Takes takes t u rest whole) ⊎ (takes s u call false × (rest ≡ []) × (whole ≡ false))
  first_taken call rest e h = grind arith

no_blocks : (records : List (List ℕ)) → OnlyTheLastIsEmpty records → blocks_from 0 records ≡ [] → concat records ≡ []
no_blocks [] only e = refl
no_blocks ([] ∷ records) only e = ap concat only
no_blocks ((b ∷ bytes) ∷ records) only e = absurd (cc)

module _ {F W : Type 0} (filed : F → Option (List ℕ)) (contents : W → Option (List ℕ)) where
  keeps_both : (s t u : Outputs F W) → Keeps s t → Keeps t u → Keeps s u
  keeps_both s t u a b = record { file = b.file ∙ a.file; out = b.out ∙ a.out }

  -- the file holds these bytes as well, and the output is as it was
  abbrev IsFiled : Outputs F W → Outputs F W → List ℕ → Bool → Type 0
  IsFiled s t bytes whole = IsPrinted filed bytes s.file.now t.file.now whole × (t.out.now ≡ s.out.now) × Keeps s t

  -- there is nothing to print
  none_printed : (s t : Outputs F W) (bytes : List ℕ) (whole : Bool) → bytes ≡ [] → (t ≡ s) × (whole ≡ true) → IsFiled s t bytes whole
  none_printed s t bytes whole none same = rw (none, same.0, same.1) (nothing_printed filed s.file.now, refl, record { file = refl; out = refl })

  -- the records after the label
  blocks_printed : (s t : Outputs F W) (n : ℕ) (records : List (List ℕ)) (whole : Bool) → OnlyTheLastIsEmpty records → Takes (TakesPrinted filed contents) s t (blocks_from n records) whole
      → IsFiled s t (concat records) whole
  blocks_printed s t n [] whole only h = none_printed s t [] whole refl (none_taken (TakesPrinted filed contents) refl h)
  blocks_printed s t n ([] ∷ records) whole only h = none_printed s t (concat records) whole (ap concat only) (none_taken (TakesPrinted filed contents) refl h)
  blocks_printed s u n ((b ∷ bytes) ∷ records) whole only h = elim (first_taken (TakesPrinted filed contents) (Block n (b ∷ bytes)) (blocks_from (n + 1) records) refl h) [
    | inl w ↦
        let two = blocks_printed w.0 u (n + 1) records whole only w.2 in
        (printed_both filed (b ∷ bytes) (concat records) s.file.now w.0.file.now u.file.now whole w.1.0 two.0, two.1 ∙ w.1.1, keeps_both s w.0 u w.1.2 two.2)
    | inr w ↦ (rw w.2 (printed_less filed (b ∷ bytes) (concat records) s.file.now u.file.now w.0.0), w.0.1, w.0.2)
  ]

  -- what becomes of the two streams
  pub record IsVolumePrinted (s t : Outputs F W) (records : List (List ℕ)) (whole : Bool) : Type 0 where
    pub named : Bool
    pub filled : Bool
    pub label : IsPrinted contents (label_text records) s.out.now t.out.now named
    pub written : IsPrinted filed (file_bytes records) s.file.now t.file.now filled
    pub both : named && filled ≡ whole
    pub keeps : Keeps s t

  nothing_came : (s t : Outputs F W) (records : List (List ℕ)) (whole : Bool) → label_text records ≡ [] → file_bytes records ≡ [] → (t ≡ s) × (whole ≡ true) → IsVolumePrinted s t records whole
  nothing_came s t records whole no_label no_file same =
      let label : IsPrinted contents (label_text records) s.out.now s.out.now true = rw no_label (nothing_printed contents s.out.now) in
      let written : IsPrinted filed (file_bytes records) s.file.now s.file.now true = rw no_file (nothing_printed filed s.file.now) in
      rw (same.0, same.1) (record { named = true; filled = true; label = label; written = written; both = refl; keeps = record { file = refl; out = refl } })

  volume_printed : (s t : Outputs F W) (records : List (List ℕ)) (whole : Bool) → OnlyTheLastIsEmpty records → Takes (TakesPrinted filed contents) s t (calls_of records) whole → IsVolumePrinted s t records whole
  volume_printed s t [] whole only h = nothing_came s t [] whole refl refl (none_taken (TakesPrinted filed contents) refl h)
  volume_printed s t ([] ∷ records) whole only h = nothing_came s t ([] ∷ records) whole refl (ap concat only) (none_taken (TakesPrinted filed contents) refl h)
  volume_printed s u ((b ∷ bytes) ∷ records) whole only h = elim (first_taken (TakesPrinted filed contents) (Label (b ∷ bytes)) (blocks_from 0 records) refl h) [
    | inl w ↦
        let two = blocks_printed w.0 u 0 records whole only w.2 in
        record { named = true; filled = whole; label = rw two.1 w.1.0; written = rw w.1.1 at two.0; both = refl; keeps = keeps_both s w.0 u w.1.2 two.2 }
    | inr w ↦
        let written : IsPrinted filed (concat records) s.file.now u.file.now true = rw (no_blocks records only w.1, w.0.1) (nothing_printed filed s.file.now) in
        record { named = false; filled = true; label = w.0.0; written = written; both = sym w.2; keeps = w.0.2 }
  ]

-- a reel that is to stay is not checked
stays_always : (records : List (List ℕ)) → after_for_records Stay records ≡ Stay
stays_always records = grind arith

not_asked : (next : List PlainReply → Option PlainRequest) (goes : AfterVolume) (replies : List PlainReply) (result : Result Unit ReadFault) (end : List SinkCall) (completed : Bool) → goes ≡ Stay → IsEnding next goes replies result end completed
    → (end ≡ []) × (completed ≡ false)
not_asked next goes replies result end completed e h = grind arith

module _ {P F W : Type 0} (tells : P → List Passed → Type 0) (filed : F → Option (List ℕ)) (contents : W → Option (List ℕ)) (device : List ℕ) (p q : P) (s t : Outputs F W) (result : Result Unit ReadFault)
    (read : IsRead (sink_kind tells (TakesPrinted filed contents)) device Stay (sink_ends p s) (sink_ends q t) result) where
  stays : after_for_records Stay (records_of read.replies) ≡ Stay
  stays = stays_always (records_of read.replies)

  none : (read.end ≡ []) × (read.completed ≡ false)
  none = not_asked (next_of device Stay read.completed) (after_for_records Stay (records_of read.replies)) read.replies result read.end read.completed stays read.ending

  printed_so : IsVolumePrinted filed contents s t (records_of read.replies) (is_whole result)
  printed_so = volume_printed filed contents s t (records_of read.replies) (is_whole result) read.reads (rw (none.0, append-nil) at read.took)

  pub streams_kept : Keeps s t
  streams_kept = printed_so.keeps

  pub volume_copied : IsVolumeCopied (copy_kind tells filed contents) device (copy_ends p s.file.now s.out.now) (copy_ends q t.file.now t.out.now) result
  volume_copied = record {
    replies = read.replies;
    passed = read.passed;
    named = printed_so.named;
    filled = printed_so.filled;
    logs = read.logs;
    label = printed_so.label;
    records = printed_so.written;
    whole = printed_so.both;
    ends = rw (stays, none.0, none.1) at read.ends;
  }
