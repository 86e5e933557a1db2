pub mod Colon
pub mod Paths
