-- Chunks: what is printed of bytes, run of text by run of text.
pub mod Chunks
