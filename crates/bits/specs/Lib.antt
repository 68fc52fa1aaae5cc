-- The bits of a word. The definitions stand in Bit; then the laws: what and, or, not, shifts and
-- counting do to the bits, over words of any width, and how a bit is carried from one word of a row
-- to the next.
pub mod Bit
pub mod Laws
pub mod Shifts
pub mod Carries
pub mod Ones
