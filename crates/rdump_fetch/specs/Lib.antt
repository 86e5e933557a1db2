-- In reading order: Name (the name of a copy); Copy (the copy of a reel, and how it is made); Memory
-- (a copy in memory); Sink (what a sink that makes a copy does with a volume); Fetch (the copy of a
-- whole reel). Then Comparing and SinkLends (a sink that compares volumes), and ComparedVolume (what
-- its calls mean together).
pub mod Name
pub mod Copy
pub mod Memory
pub mod Sink
pub mod Fetch
pub mod Comparing
pub mod SinkLends
pub mod ComparedVolume
