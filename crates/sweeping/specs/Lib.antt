-- What sweeping promises, and that this is one outcome; then what the functions within promise.
pub mod Promise
pub mod Outcome
pub mod Steps
