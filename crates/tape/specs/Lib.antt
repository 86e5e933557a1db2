-- In reading order: Tape, Failures, Call, Trouble (any reel); Medium, RecordFile, Media (its
-- bytes); Fuse, Stops (a medium that stops); List (in memory); FileSteps, Scan.
pub mod Tape
pub mod Call
pub mod Failures
pub mod List
pub mod Trouble
pub mod Medium
pub mod RecordFile
pub mod Media
pub mod Fuse
pub mod Stops
pub mod FileSteps
pub mod Scan
