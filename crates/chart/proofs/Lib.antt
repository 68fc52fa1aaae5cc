-- Laws that the proofs of the program's functions share.
mod Reading
mod Showing
