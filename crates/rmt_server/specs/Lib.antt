-- In reading order: Access, Refusals, Session (what each request does); State, Replies, Opening,
-- Moving, Serving, Carrying, Lending (a session). Then: Stream; Memory, Troubling, TroubledServe
-- (in memory); ServerState (all connections); Laws.
pub mod Access
pub mod Refusals
pub mod Session
pub mod State
pub mod Replies
pub mod Opening
pub mod Moving
pub mod Serving
pub mod Carrying
pub mod Lending
pub mod Stream
pub mod Troubling
pub mod Memory
pub mod TroubledServe
pub mod ServerState
pub mod Laws
