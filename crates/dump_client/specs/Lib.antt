-- In reading order: Script, Position (an attempt); Listening, Standing, Client, Looking (a client); Lawful,
-- Replies, Going (what is kept at each step).
pub mod Script
pub mod Position
pub mod Listening
pub mod Standing
pub mod Lawful
pub mod Replies
pub mod Client
pub mod Looking
pub mod Going
