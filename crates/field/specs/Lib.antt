-- What document 01 defines. The modules first named, Map to Morning, are meanings: relations in the
-- document's words, which a reader must believe. Limits has the numbers that the code's constants
-- share with them. Workings compute; Geometry has the words of its theorems; Table has the settled
-- examples, FurtherTable what they leave open, CheckTable drawn lists, DepotTable depots,
-- LinesTable crossing lines, StonesTable stones of different heights, StateTable states after
-- drives, SweepTable sweeps, and MorningTable morning sheets. What is proved of all these stands in
-- proofs/.
pub mod Map
pub mod Rule
pub mod Refusals
pub mod Reasons
pub mod Labels
pub mod Groups
pub mod Distances
pub mod Hops
pub mod Drives
pub mod Chooser
pub mod Checks
pub mod CrossingLines
pub mod Depots
pub mod Sweeps
pub mod Morning
pub mod Limits
pub mod Workings
pub mod Geometry
pub mod Table
pub mod FurtherTable
pub mod CheckTable
pub mod DepotTable
pub mod LinesTable
pub mod StonesTable
pub mod StateTable
pub mod SweepTable
pub mod MorningTable
