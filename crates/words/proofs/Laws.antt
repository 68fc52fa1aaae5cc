-- In the order of the argument: a number by its digits (Digits), eight bytes at a time (Eights), a
-- word read and written (Words).
pub mod Digits
pub mod Eights
pub mod Words
