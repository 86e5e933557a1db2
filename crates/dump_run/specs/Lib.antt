-- In reading order: DumpId; Run; Counts (its counted volumes); Checkpoint (the text of both),
-- CheckpointParts; Label, LabelParts; Blocks (the contents of a volume).
pub mod DumpId
pub mod Run
pub mod Counts
pub mod Checkpoint
pub mod CheckpointParts
pub mod Label
pub mod LabelParts
pub mod Blocks
