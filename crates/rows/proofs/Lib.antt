-- The laws behind the functions' proofs, in plain mathematics of words and sheets.
pub mod Laws
