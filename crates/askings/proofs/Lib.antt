-- The laws behind the functions' proofs: how what is told over a label sheet's marks, or over a
-- morning sheet's, is carried over to the closed crossings.
pub mod Bridge
pub mod Mornings
