-- In reading order: World, Events, Changes, Rows, Steps, First; History, Standing, Written,
-- Headline, Sums, Restores; Further; Serving, Talk, Faultless. How it is proved: Owning, Naming, Sending,
-- Attempts, Sparing, Kept.
pub mod World
pub mod Events
pub mod Changes
pub mod Rows
pub mod Steps
pub mod First
pub mod History
pub mod Standing
pub mod Written
pub mod Headline
pub mod Sums
pub mod Restores
pub mod Further
pub mod Naming
pub mod Kept
pub mod Owning
pub mod Sending
pub mod Attempts
pub mod Sparing
pub mod Serving
pub mod Talk
pub mod Faultless
