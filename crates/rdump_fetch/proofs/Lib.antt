pub mod Fetching
pub mod ComparedCalls
