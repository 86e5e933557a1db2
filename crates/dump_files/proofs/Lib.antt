pub mod Reached
pub mod Payloads
pub mod Lines
