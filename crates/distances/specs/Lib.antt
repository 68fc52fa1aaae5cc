-- What clear distances and assurance are asked of, what their answers tell of the closed crossings
-- that a sheet draws, and how home's four distances tell for which places it is assured.
pub mod Promise
pub mod Looking
pub mod Drawn
pub mod Assuring
