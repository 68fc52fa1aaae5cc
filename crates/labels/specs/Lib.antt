-- What the labelling promises, and that this is one outcome; then, for the functions within, what
-- counting promises, and the working memory.
pub mod Promise
pub mod Outcome
pub mod Counting
pub mod Memory
