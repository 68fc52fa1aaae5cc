-- What the hop code promises, what its functions promise one another, and what its answer tells of
-- the closed crossings that a sheet draws.
pub mod Promise
pub mod Leading
pub mod Told
