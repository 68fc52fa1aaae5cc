-- What closing promises: the closed crossings' bits (Closes); for the functions within, a word's
-- steps (Steps), and growth (Growth).
pub mod Steps
pub mod Growth
pub mod Closes
