-- In reading order: SumLine (the line of a volume and its text), DumpLines (those with which a dump
-- begins and is finished), Line (all three), Catalog (all lines), Run (the lines of a dump that are in force), Verdict (a sum that is
-- compared with them), Places (where the lines of a dump are), Reading (the results of the private
-- functions).
pub mod SumLine
pub mod DumpLines
pub mod Line
pub mod Catalog
pub mod Run
pub mod Verdict
pub mod Places
pub mod Reading
