-- What is proved of the definitions of specs/: by Workings, that what computes agrees with its
-- meaning; by Geometry, Checked, Advancing and SweepLaws, the theorems that need no code; by
-- Settled and those named like it, and by Further, that every row of the tables holds.
pub mod Workings
pub mod Geometry
pub mod Checked
pub mod Advancing
pub mod SweepLaws
pub mod Settled
pub mod Further
pub mod CheckSettled
pub mod DepotSettled
pub mod LinesSettled
pub mod StonesSettled
pub mod StateSettled
pub mod SweepSettled
pub mod MorningSettled
