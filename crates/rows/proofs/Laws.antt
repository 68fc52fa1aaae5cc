-- The crossings of a word (Widths), the rocks read word by word (Reading), the labels written word
-- by word (Writing).
pub mod Widths
pub mod Reading
pub mod Writing
