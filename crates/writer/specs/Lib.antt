-- What the map writer promises and what that comes to; then what its functions compute on the way,
-- and why that is the promise.
pub mod Promise
pub mod Outcome
pub mod Digits
pub mod DigitLaws
pub mod FileLaws
