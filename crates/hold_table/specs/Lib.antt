-- In reading order: Seats (what contracts see); Rule and Moves (what each step may do); Keeping
-- (why the steps keep the rule); Closing (what is left at the end).
pub mod Rule
pub mod Moves
pub mod Keeping
pub mod Seats
pub mod Closing
