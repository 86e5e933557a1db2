-- Status: the exit status of a dump. Dates: the dumpdates file of a dump.
pub mod Status
pub mod Dates
