-- In reading order: Holding, Local (holders); TapeLibrary, Calls, Stacking, Opening (reels);
-- ListLibrary, Arranging (in memory).
pub mod Holding
pub mod Local
pub mod TapeLibrary
pub mod Calls
pub mod Stacking
pub mod Opening
pub mod ListLibrary
pub mod Arranging
