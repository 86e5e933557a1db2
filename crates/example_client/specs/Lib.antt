-- Whole: when a dump is whole, and why one stopped.
pub mod Whole
