-- Bits that tell of each crossing whether it is in a set (Tells); the numbers summed up (Sums); and
-- that the bits' labels and numbers are the promise (Labels).
pub mod Tells
pub mod Sums
pub mod Labels
