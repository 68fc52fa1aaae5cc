-- What is proved of the marker list: Laws hold the theorems, Theorems what they come to, and
-- Settled that every row of the table of small lists holds.
pub mod Laws
pub mod Theorems
pub mod Rows
pub mod Settled
