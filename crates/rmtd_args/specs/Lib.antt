-- In reading order: Drive (one argument), Rmtd (all arguments).
pub mod Drive
pub mod Rmtd
