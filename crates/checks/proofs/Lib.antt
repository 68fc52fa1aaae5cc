-- What the proofs of the check share.
pub mod Going
pub mod Whole
