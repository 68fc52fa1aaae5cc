-- What the proofs of several functions share: steps along a way, and crossings looked at so far.
pub mod Ways
pub mod Looking
