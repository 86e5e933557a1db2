-- In reading order: Playing, Report, Ending (what is printed, and the exit status). Then Cut,
-- Drives (lines and their fields).
pub mod Cut
pub mod Drives
pub mod Playing
pub mod Report
pub mod Ending
