-- What reading the header promises, and laws that its proofs share with those of the crates above.
pub mod HeaderParts
pub mod Found
pub mod Letters
pub mod Answers
pub mod Left
