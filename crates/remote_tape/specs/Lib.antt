-- In reading order: Peer (what passes), Call (one request and its reply), Tape (the requests to a
-- tape), Calls (calls one after the other), Search (for the mark behind the records).
pub mod Peer
pub mod Call
pub mod Tape
pub mod Calls
pub mod Search
