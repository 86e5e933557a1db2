-- In reading order. Verdict: the verdict on a reel, in words. ComparedReel: a record file that is
-- compared with a catalog. DumpFound and FoundText: what is there of a dump of a catalog. Dated:
-- dates with their UTC text. Status: the exit statuses.
pub mod Verdict
pub mod ComparedReel
pub mod DumpFound
pub mod FoundText
pub mod Dated
pub mod Status
