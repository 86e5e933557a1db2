pub mod Basics
pub mod Words
pub mod Given
pub mod Heard
pub mod Calls
pub mod Searching
