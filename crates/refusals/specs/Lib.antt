-- In reading order: Request (which request some bytes are), Row (a row of the table), Refusal (what
-- a refusal prints).
pub mod Request
pub mod Row
pub mod Refusal
