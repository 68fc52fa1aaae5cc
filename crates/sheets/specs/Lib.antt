-- What the functions over sheets ask and promise.
pub mod Promise
