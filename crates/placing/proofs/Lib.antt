-- What the proofs of several functions share: sums that fit, and what the counts mean.
pub mod CountLaws
pub mod PlaceLaws
