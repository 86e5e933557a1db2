-- Serving: the replies of the tape, and what serving it does.
pub mod Serving
