-- Laws that the proofs of the rasters' functions share.
mod Rows
mod PackedRows
mod ReadingRows
mod Reading
mod ReadingPlain
pub mod Sizes
