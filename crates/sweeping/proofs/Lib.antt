-- The laws behind the functions' proofs, in plain mathematics of sheets and queues.
pub mod Laws
