-- In reading order: Making, Running, Telling, Entries, Volumes, Files; Connections, Seen, Holding,
-- Calling, Talking, Hearing, Saving, Serving.
pub mod Connections
pub mod Seen
pub mod Holding
pub mod Calling
pub mod Talking
pub mod Hearing
pub mod Making
pub mod Running
pub mod Saving
pub mod Telling
pub mod Serving
pub mod Entries
pub mod Volumes
pub mod Files
