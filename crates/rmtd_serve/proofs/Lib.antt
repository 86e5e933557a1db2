pub mod Endings
pub mod Resting
pub mod Afresh
mod Seats
mod Hands
mod Closed
