-- What the code for a depot's four numbers promises. A reader must believe Promise; Counting says
-- what the counts inside do, and Outcome shows that the promise leaves one outcome.
pub mod Promise
pub mod Counting
pub mod Outcome
