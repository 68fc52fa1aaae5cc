-- What the code for regions promises. A reader must believe Promise; Passes says what the functions
-- inside do, Reaching what the pass from one end comes to, and Outcome, with Told, shows that the
-- promise leaves one outcome.
pub mod Promise
pub mod Passes
pub mod Reaching
pub mod Told
pub mod Outcome
