-- The laws behind the functions' proofs, in plain mathematics of bits and crossings.
pub mod Laws
