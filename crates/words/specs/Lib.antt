-- What the functions between words and bytes promise.
pub mod Words
pub mod Eights
