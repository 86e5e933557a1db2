-- A peer in memory: Telling; exit statuses as numbers: Codes.
pub mod Telling
pub mod Codes
