-- In reading order, each by itself: WholeFile (a file that is read and replaced as a whole); Spool (a
-- stream that is kept).
pub mod Spool
pub mod WholeFile
