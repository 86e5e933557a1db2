-- One file: Files.
pub mod Files
