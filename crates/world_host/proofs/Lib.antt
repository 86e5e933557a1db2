pub mod Carrying
pub mod Ended
pub mod Given
pub mod Lying
pub mod Sides
pub mod Tidied
pub mod Hosted
pub mod Restacked
pub mod Turned
pub mod Linked
pub mod Turns
mod Names
