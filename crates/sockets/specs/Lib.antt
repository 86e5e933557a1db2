-- The form of an address. No contract describes what a socket does.
pub mod Address
