-- The labelling program's text, from the bytes of a map file: the promise and what it comes to;
-- then what its functions put into the output on the way, and why that is the promise.
pub mod Promise
pub mod Outcome
pub mod Parts
pub mod Drawing
pub mod DrawingLaws
pub mod Table
pub mod TableLaws
pub mod Settled
