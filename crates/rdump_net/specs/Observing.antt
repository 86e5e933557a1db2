-- What an observer of a dump logs. A count is the record of a volume that was written whole: its
-- number, its first block and its number of blocks. Public contracts cite it.
use Rattle.std.specs.Prelude.{◌≡◌, Bool, true, false, List, [], ◌∷◌, ◌++◌, map}
use Rattle.dump_run.specs.Checkpoint.{PlainCheckpoint}
use Rattle.dump_run.specs.Run.{PlainRun}
use Rattle.dump_run.specs.declared.count.VolumeCount.{VolumeCount}

-- An event of a dump. No event says that a checkpoint's text or a catalog was stored. The cases:
--
-- - `Counted`: the observer was told of this counted volume.
-- - `Kept`: this checkpoint was kept.
-- - `Completed`: the dump's end was to be entered in the catalog, and whether that has all of the
--   dump.
-- - `Entered`: the dump of this run was to be entered in dumpdates, and whether that went well.
-- - `Forgotten`: the checkpoint was to be forgotten, and whether that went well.
pub data DumpEvent : Type 0 where
  Counted : (count : VolumeCount) → DumpEvent
  Kept : (checkpoint : PlainCheckpoint) → DumpEvent
  Completed : (has_all : Bool) → DumpEvent
  Entered : (run : PlainRun) (done : Bool) → DumpEvent
  Forgotten : (done : Bool) → DumpEvent

-- These events were appended to the observer's log. `logs first now log` says that the observer
-- `now` has logged `log` since it was `first`.
abbrev pub LogsOn : {O : Type 0} → (O → O → List DumpEvent → Type 0) → O → O → List DumpEvent → Type 0
LogsOn {O} logs old new events = (first : O) (log : List DumpEvent) → logs first old log → logs first new (log ++ events)

-- what keeping a checkpoint logs: the checkpoint, if it was kept
abbrev pub kept_if : PlainCheckpoint → Bool → List DumpEvent
kept_if checkpoint true = Kept checkpoint ∷ []
kept_if checkpoint false = []

-- what is logged of counted volumes
abbrev pub told_of : List VolumeCount → List DumpEvent
told_of counts = map Counted counts

-- the volumes that the observer was told of, in order
abbrev pub counts_of : List DumpEvent → List VolumeCount
counts_of [] = []
counts_of (Counted count ∷ events) = count ∷ counts_of events
counts_of (event ∷ events) = counts_of events

-- the checkpoints that were kept, in order
abbrev pub kept_of : List DumpEvent → List PlainCheckpoint
kept_of [] = []
kept_of (Kept checkpoint ∷ events) = checkpoint ∷ kept_of events
kept_of (event ∷ events) = kept_of events

-- the runs that were to be entered in dumpdates, in order, and whether each was
abbrev pub entered_of : List DumpEvent → List (PlainRun × Bool)
entered_of [] = []
entered_of (Entered run done ∷ events) = (run, done) ∷ entered_of events
entered_of (event ∷ events) = entered_of events

-- The observer was told of the volumes that were counted since the counts were `first`: each
-- exactly once, in order.
abbrev pub AreTold : List VolumeCount → List DumpEvent → List VolumeCount → Type 0
AreTold first events counts = counts ≡ first ++ counts_of events

-- the observer has been told of these volumes
abbrev pub HasTold : {O : Type 0} → (O → O → List DumpEvent → Type 0) → O → List VolumeCount → Type 0
HasTold {O} logs now counts = (before : O) × LogsOn logs before now (told_of counts)

-- the observer logged these events, and cannot stop the dump if it could not before
pub record Observes {O : Type 0} (logs : O → O → List DumpEvent → Type 0) (can_stop : O → Type 0) (old new : O) (events : List DumpEvent) : Type 0 where
  pub logged : LogsOn logs old new events
  pub quiet : can_stop new → can_stop old
