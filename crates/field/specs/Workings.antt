-- Workings: functions on sheets that compute what document 01 defines. That each agrees with the
-- meaning, both ways, is proved in proofs/.
pub mod Tests
pub mod Sheet
pub mod MarkCount
pub mod Closing
pub mod Stamping
pub mod Sweeping
pub mod Looking
pub mod Reaching
pub mod Placing
pub mod Checking
pub mod MorningLaws
