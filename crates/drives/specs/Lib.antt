-- What the code for drives promises. A reader must believe Promise; Hops says what the functions
-- inside do, and Outcome shows that a promise leaves one outcome.
pub mod Promise
pub mod Hops
pub mod Outcome
