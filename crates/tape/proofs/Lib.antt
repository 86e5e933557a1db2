mod Words
pub mod Calls
pub mod Devices
pub mod Spelling
pub mod Limits
pub mod Places
pub mod MediumRuns
mod Appends
pub mod Images
pub mod Writing
pub mod Putting
pub mod ReelCalls
pub mod Passing
pub mod Before
pub mod Taking
pub mod Walks
pub mod Scanning
pub mod Held
pub mod Fuses
pub mod Stood
