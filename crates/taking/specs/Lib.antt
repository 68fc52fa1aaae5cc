-- What a sheet is asked for by itself before it is taken, and the faults of a crossing and of a
-- row.
pub mod Promise
pub mod Faults
