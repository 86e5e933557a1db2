pub mod Words
pub mod Played
pub mod Reported
