-- What telling the map that bytes begin with promises, and that its outcome is one.
pub mod Promise
pub mod Parts
pub mod Outcome
