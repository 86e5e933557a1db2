-- The names of std and of the specs that proofs use.
pub use Rattle.std.proofs.Common.{◌≡◌, ℕ, suc, ◌+◌, ◌≤◌, min, List, [], ◌∷◌, ◌++◌, length, take, Result, IsErr, Ok, Err, sym, ap, ◌∙◌, append_assoc, length-append, arith, ◌⊎◌, ◌-◌, ◌<◌, reverse, drop, Option, Some, None, inl, inr, refl, subst, append-nil, length-take, ◌≢◌, replicate, zero, ◌↔◌, if◌then◌else◌, Bool, OnOk, true, false, ◌==◌, ◌*◌, MatchOption, MatchResult, ◌^◌, length-drop, take-append-drop, drop-drop, nat_eq, ap₂, IsTrue, IfErr, IfOk, get_or, le-leb}
pub use Rattle.std.proofs.Math.Nat.{min-le_right}
pub use Rattle.std.proofs.Math.Seq.{take-append-add, take-length, take-append_seam, drop-append_seam}
pub use Rattle.std.proofs.lemmas.Bool.{cases_lt}
pub use Rattle.std.proofs.lemmas.Bool.Decides.{nat_tests, Decides-eqb}
pub use Rattle.std.proofs.lemmas.Grind.{flat_map-append}
pub use Rattle.std.proofs.lemmas.List.{take_min, take-append-le, drop_at, reverse-append, length-replicate, take-replicate, take_all, nil_from_length, take_at, reverse-reverse, map-append, append_cancel_left, replicate-append-replicate}
pub use Rattle.std.proofs.lemmas.List.Elements.{All-head, All-get_or, All-nil, All-cons, All-tail, All-append, All-take, All-drop, All-replicate, All-weaker}
pub use Rattle.std.proofs.lemmas.List.Sums.{sum_by-cons}
pub use Rattle.std.proofs.lemmas.Nat.{le_bytes_4, from_le_bytes-to_le_bytes_4}
pub use Rattle.std.proofs.lemmas.Option.{same_Some, slice_get_within, get_or_from_slice_get}
pub use Rattle.std.proofs.lemmas.Result.{err_from_is_err_and}
pub use Rattle.std.proofs.lemmas.Slice.Eq.{starts_is}
pub use Rattle.std.specs.Int.{w32, from_le_bytes}
pub use Rattle.std.specs.List.{All, slice_get, starts_with}
pub use Rattle.std.specs.Result.{is_err}
pub use Rattle.rmt_wire.specs.declared.limits.TheConstants.{RECORD_LIMIT}
pub use Rattle.tape.specs.Call.{CanAnswer, CanSpace, IsTapeCall}
pub use Rattle.tape.specs.Failures.{raised, Steps}
pub use Rattle.tape.specs.FileSteps.{AreMediumCalls, BeginsWith, size_by_length, first_length, IsPassed, HasPassed, HasWalkedMarks, HasWalkedRecords, ahead, AreReelCalls, IsImageWritten, PutsEntries, IsWalked, place_after, files_request, records_request, way_left}
pub use Rattle.tape.specs.Fuse.{Fused, CanStop, IsLeft, counted_down, fuse_kind, is_due}
pub use Rattle.tape.specs.List.{bytes_of, IsListCall, entry_length, with_front, IsListView, list_view, entry_at, plain_of, plain_entries, entry_bytes}
pub use Rattle.tape.specs.Media.{MemoryBytes, IsMemory, memory_kind}
pub use Rattle.tape.specs.Medium.{MediumKind, MediumStep, IsMediumCall, IsReadAt, MediumCall, HasFailed, bytes_added}
pub use Rattle.tape.specs.Medium.MediumCall.{Append, Cut}
pub use Rattle.tape.specs.RecordFile.{image_of, images_of, IsFile, SpellsReel, FileTape, HoldsTape, tape_in, entries_in, image_added, IsTail, IsTailUpTo, SpellsReelUpTo, IsWrittenUpTo, EndsInEntries, file_reel_kind, entries_written, medium_kind_of}
unfoldable pub use Rattle.tape.specs.RecordFile.{length_bytes, first_in, entries_within}
pub use Rattle.tape.specs.Scan.{IsFirst, IsNth}
pub use Rattle.tape.specs.Stops.{StandsAfterMarks, StandsAfterWrite}
pub use Rattle.tape.specs.Tape.{PlainEntry, Tape, IsTapeEntry, size_of, TapeRequest, TapeAnswer, Passes, SpaceStep, TapeStep, IsCutShort, tape, entries_of, offset_of, op_request, done_answer, IsRecord, IsEntryUpTo, mark_count, stands_at, marks_met, records_met, passed_for_marks, passed_for_records, MarksStep, WriteStep}
pub use Rattle.tape.specs.Tape.PlainEntry.{Record, Mark}
pub use Rattle.tape.specs.Tape.TapeAnswer.{Done, Gave, Fault}
pub use Rattle.tape.specs.Tape.TapeRequest.{Write, Read, WriteMarks, Rewind, Nothing, Unknown}
pub use Rattle.tape.specs.Trouble.{left_by, DeviceStep, TroubledTape, TroubledStep, IsTroubledCall, ComesToDevice, left_after, put_by, IsTroubleLeft}
pub use Rattle.tape.specs.declared.entry.Entry.{Entry}
pub use Rattle.tape.specs.declared.fault.TapeFault.{TapeFault}
pub use Rattle.tape.specs.declared.fault.TapeFault.TheVariants.{Device, Full, EndOrMark, BadOperation, OutOfMemory}
pub use Rattle.tape.specs.declared.file_reel.walk.PassedEntry.{PassedEntry}
pub use Rattle.tape.specs.declared.file_reel.walk.Walked.{Walked}
pub use Rattle.tape.specs.declared.file_reel.walk.Way.{Way}
pub use Rattle.tape.specs.declared.file_reel.walk.Way.TheVariants.{Forward, Back}
pub use Rattle.tape.specs.declared.medium.MediumFailed.{MediumFailed}
pub use Rattle.tape.specs.declared.trouble.Trouble.{Trouble}
