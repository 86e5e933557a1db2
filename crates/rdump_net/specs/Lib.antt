-- In reading order: Talk, Lines (a dump), Observing, Keeping, Ending (a dump with an observer),
-- Retries; Sink, Ends; Operation (mtio); Reading, PrintingSink (a volume); Look, Protection (a reel
-- before it is written). `Rattle.remote_tape.specs` has the requests and the peer.
pub mod Talk
pub mod Lines
pub mod Observing
pub mod Keeping
pub mod Ending
pub mod Retries
pub mod Sink
pub mod Ends
pub mod Operation
pub mod Reading
pub mod PrintingSink
pub mod Look
pub mod Protection
