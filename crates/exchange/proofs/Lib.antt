-- Laws that the proofs of the code cite.
mod Rocks
