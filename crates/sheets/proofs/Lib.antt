-- That a sheet filled with zeros is wiped, that a crossing's number is small, and what a test's
-- answer tells.
pub mod Wiping
mod Numbers
pub mod Told
