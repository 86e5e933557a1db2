pub mod Ended
pub mod Dates
