-- Ranges: the volumes that are missing. There: those that are there.
mod Ranges
mod There
