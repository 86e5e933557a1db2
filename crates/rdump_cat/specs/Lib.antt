-- In reading order: Outcome (the exit status); Knowing (which catalogs have lines of a dump);
-- KnownDump (the dump of a catalog that is restored).
pub mod Outcome
pub mod Knowing
pub mod KnownDump
