pub mod Logging
pub mod Renewing
