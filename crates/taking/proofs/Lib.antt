-- What the proofs of several functions share.
mod Counting
mod Rows
