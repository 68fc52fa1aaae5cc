-- What the proofs of several functions share.
mod Testing
mod Answering
