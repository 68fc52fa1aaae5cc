-- The parts of the two map-file calls that need no list of records.
pub mod Promise
