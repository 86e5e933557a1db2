pub mod LineText
pub mod OneLine
pub mod OneCatalog
pub mod Last
pub mod Places
