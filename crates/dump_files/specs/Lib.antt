-- In reading order, each by itself: Payload (the payload and its run); ResumedDump (a dump that is
-- resumed); Dates (the dumpdates file); Updating (entering a dump in it), Keeping (a checkpoint);
-- Counted (the line of a counted volume), Entering (a line is entered in a catalog).
pub mod Counted
pub mod Entering
pub mod ResumedDump
pub mod Dates
pub mod Keeping
pub mod Payload
pub mod Updating
