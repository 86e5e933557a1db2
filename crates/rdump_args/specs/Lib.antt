-- The limits of the arguments of `rdump`.
pub mod Rdump
