-- In reading order: Servers (the server's side of each connection), Lying (reels), Turns (one
-- request each); Hosting (in memory). Then Direction, Attempt, Connection.
pub mod Servers
pub mod Lying
pub mod Hosting
pub mod Turns
pub mod Direction
pub mod Attempt
pub mod Connection
