-- In reading order: Volumes (a whole volume on a reel); Restored (what a restored payload is);
-- Partial (what can be had of a payload); Dumped (a dump whose volumes are on the reels); Found,
-- Chain, Spaced and Written (the steps of a restore).
pub mod Volumes
pub mod Restored
pub mod Partial
pub mod Dumped
pub mod Found
pub mod Chain
pub mod Spaced
pub mod Written
