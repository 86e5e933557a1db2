pub mod Held
pub mod ListLibrary
pub mod Seats
pub mod Shops
pub mod Elsewhere
pub mod Arranging
pub mod ToldOrder
mod Calls
mod Lying
mod Refused
mod Names
