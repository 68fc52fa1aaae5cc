-- Laws that the proofs of a step's functions share.
mod Telling
mod Stepping
