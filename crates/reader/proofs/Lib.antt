-- Laws that the proofs of the reader's functions share.
mod FirstTwo
mod Joining
