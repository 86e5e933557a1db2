-- In reading order: Holding (what a reel holds), Contents (the result of a check), Finding (what
-- the functions that read it find). Then Volume (what a volume is on a reel, and its sum), Hashing
-- (what a hasher holds), Summing.
pub mod Holding
pub mod Contents
pub mod Finding
pub mod Volume
pub mod Hashing
pub mod Summing
