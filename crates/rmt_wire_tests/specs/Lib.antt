-- One file: Listener (a reader of replies, in tests).
pub mod Listener
