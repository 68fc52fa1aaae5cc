-- The marker list: what a list lent with a count is, and what entering and clearing make of it.
-- Laws have what proofs share, Table small lists; the theorems are in proofs/.
pub mod List
pub mod Reached
pub mod Promise
pub mod Laws
pub mod Table
