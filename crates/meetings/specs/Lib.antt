-- What the code for crossing lines promises. A reader must believe Promise; Search and Parts say
-- what the functions inside ask and do, and Outcome shows that a promise leaves one outcome.
pub mod Promise
pub mod Search
pub mod Parts
pub mod Outcome
