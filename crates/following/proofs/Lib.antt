-- Laws that the proofs of telling share.
mod Telling
