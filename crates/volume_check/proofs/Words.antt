-- The names that most proofs of this crate cite, passed on from one place.
pub use Rattle.dump_run.specs.Label.{IsLabel, PlainLabel, label_record}
pub use Rattle.volume_check.specs.Contents.{IsTally, Tally, record_count, record_total}
pub use Rattle.volume_check.specs.Finding.{AddsEntry, AddsRecord, IsTalliedUpTo, IsTallyOfFile}
pub use Rattle.volume_check.specs.Holding.{HasTwoLengths, IsEnd, IsHolding, IsVolume}
pub use Rattle.volume_check.specs.declared.holding.Holding.{Holding}
pub use Rattle.volume_check.specs.declared.holding.Volume.{Volume}
pub use Rattle.volume_check.specs.declared.holding.VolumeEnd.{VolumeEnd}
pub use Rattle.std.proofs.Common.{List, None, Option, Some, [], ap, append-nil, append_assoc, arith, drop, drop-drop, inl, inr, length, length-append}
pub use Rattle.std.proofs.Common.{refl, subst, sym, ℕ, ◌++◌, ◌+◌, ◌-◌, ◌<◌, ◌^◌, ◌∙◌, ◌∷◌, ◌≡◌, ◌≢◌, ◌≤◌}
pub use Rattle.std.proofs.lemmas.Grind.{flat_map-append}
pub use Rattle.std.proofs.lemmas.List.{drop_at, length-map, map-append}
pub use Rattle.std.proofs.lemmas.List.Elements.{All-append, All-cons, All-head, All-nil, All-tail}
pub use Rattle.std.specs.List.{All}
pub use Rattle.std.specs.Prelude.{map}
pub use Rattle.tape.proofs.MediumRuns.{no_bytes, no_bytes_twice, no_error, run_as, run_then}
pub use Rattle.tape.proofs.Spelling.{found_in, image_parts, image_size, length_length_bytes, spells_in}
pub use Rattle.tape.specs.FileSteps.{AreMediumCalls, first_length, size_by_length}
pub use Rattle.tape.specs.List.{bytes_of}
pub use Rattle.tape.specs.RecordFile.{IsFile, IsTail, SpellsReel, entries_in, image_of, images_of, length_bytes, medium_kind_of}
pub use Rattle.tape.specs.Tape.{IsTapeEntry, PlainEntry, Tape, mark_count, marks_met, tape}
pub use Rattle.tape.specs.Tape.PlainEntry.{Mark, Record}
