mod Words
pub mod Blocks
pub mod OneHolding
pub mod NextLength
pub mod Others
pub mod Telling
pub mod ReelRuns
pub mod Hashed
