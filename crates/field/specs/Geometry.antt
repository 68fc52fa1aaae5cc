-- The words of the geometry of stable sets of crossings. Its theorems are in proofs/.
pub mod Shapes
