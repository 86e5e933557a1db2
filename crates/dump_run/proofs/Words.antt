-- The names that most proofs of this crate cite, passed on from one place. Declares nothing.
pub use Rattle.std.proofs.lemmas.Bool.{both_ways}
pub use Rattle.std.proofs.lemmas.Fmt.{IsAscii-decimal, decimal_injective, decimal_is_IsNumeral, length-decimal-le, parse-decimal}
pub use Rattle.std.proofs.lemmas.List.{append-nil, drop-drop, drop-replicate, get_or_default, length-drop, length-map, length-replicate, length-take-le}
pub use Rattle.std.proofs.lemmas.List.{map-append, take-append-drop, take_all}
pub use Rattle.std.proofs.lemmas.List.Concat.{flat_map-append}
pub use Rattle.std.proofs.lemmas.List.Elements.{All-cons, All-head, All-nil, All-tail}
pub use Rattle.std.specs.Int.{IsInRange}
pub use Rattle.std.specs.List.{AllByRecursion}
pub use Rattle.std.specs.Prelude.{get_or, ◌≢◌}
pub use Rattle.std.proofs.Common.{◌≡◌, ◌++◌, length, map, All, decimal, arith, true, ℕ, ◌<◌, ◌≤◌, ◌^◌, List, [], ◌∷◌, codes, refl, sym, ap, subst, ◌∙◌, append_assoc, length-append, ◌+◌, ◌-◌, drop, replicate, take, None, Some, zero, suc, ◌*◌, ◌⊎◌, inl, inr, Err, Bool, false, if◌then◌else◌, ◌==◌, Option}
pub use Rattle.rmt_wire.specs.declared.limits.TheConstants.{RECORD_LIMIT}
pub use Rattle.dumpdates.specs.Entry.{IsName, last_second}
pub use Rattle.dump_run.specs.Checkpoint.{AreLinesOf, AreNumbers, HasBadLine, HasLineOutOfOrder, HasResumeFault, IsLineOf, IsNumberLine, Kind, LacksLine}
pub use Rattle.dump_run.specs.Checkpoint.{SpellsCheckpoint, checkpoint_lines, checkpoint_text, count_line, count_text, head, joined, kind_after, run_lines}
pub use Rattle.dump_run.specs.Checkpoint.Kind.{Block, Blocks, Counted, Date, Device, Level, Name, Since, Title}
pub use Rattle.dump_run.specs.CheckpointParts.{AreCounts, AreOrdered, FindsCount, FindsNumber, FindsText, FindsTitle, IsCountText, IsCut, IsNext, Lacks, NoFeed}
pub use Rattle.dump_run.specs.Label.{IsLabel, PlainLabel, label, label_lines, label_record, plain_label}
pub use Rattle.dump_run.specs.LabelParts.{FindsLabel, lines_of}
pub use Rattle.dump_run.specs.Run.{IsDevice, IsRun, PlainRun, blocks_limit, plain_run}
pub use Rattle.dump_run.specs.declared.count.VolumeCount.{VolumeCount}
