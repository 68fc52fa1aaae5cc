-- What a run of the planners' program prints, and a step of it.
pub mod Promise
pub mod Outcome
pub mod Steps
pub mod Parts
pub mod LineLaws
pub mod TallyLaws
pub mod Joining
pub mod StepOutcome
pub mod Existence
pub mod Table
pub mod Settled
