-- What the code's loops keep true, and what its searches find, as laws of lists of markers.
pub mod Forming
pub mod Stamping
pub mod Seeking
pub mod Opening
pub mod Showing
