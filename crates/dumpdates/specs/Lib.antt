-- In reading order. A list: Entry, Dates. As written: Moment, Names, Text. As read: Line, Lines.
-- Inside the code: Stored, Clock, Front, FoundLine.
pub mod Entry
pub mod Moment
pub mod Names
pub mod Text
pub mod Dates
pub mod Stored
pub mod Clock
pub mod Line
pub mod Lines
pub mod Front
pub mod FoundLine
