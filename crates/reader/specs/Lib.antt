-- What the map reader promises, and that its outcome is one.
pub mod Promise
pub mod LettersParts
pub mod ReadingParts
pub mod Outcome
