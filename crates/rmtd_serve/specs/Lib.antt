-- In reading order: Status, Stdio, Serving (a drive in memory), Generic (any drives), Folders
-- (drives in folders), Seating (seats of threads), Accepting (a listener), Startup.
pub mod Status
pub mod Stdio
pub mod Serving
pub mod Generic
pub mod Folders
pub mod Seating
pub mod Accepting
pub mod Startup
