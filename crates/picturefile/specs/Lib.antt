-- Pictures of distances, raw PGM, in the order of the bytes.
pub mod Depths
pub mod Kinds
pub mod Picture
pub mod Written
pub mod Working
pub mod DepthLaws
pub mod Table
