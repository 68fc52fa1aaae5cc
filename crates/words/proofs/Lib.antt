-- The laws behind the functions' proofs, in plain mathematics of bits and bytes.
pub mod Laws
