-- What the functions over a lent list of marker records promise.
pub mod Promise
pub mod Steps
