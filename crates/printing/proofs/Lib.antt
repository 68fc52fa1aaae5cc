-- Laws of pieces in an output that the programs' proofs share.
pub mod Putting
pub mod Lines
