-- The laws behind the functions' proofs, in plain mathematics of words and maps.
pub mod Laws
