-- Geometry of stable sets of crossings, for any C that is on the map, stable and decidable.
-- Theorems states what it comes to.
pub mod Lines
pub mod Links
pub mod Rectangles
pub mod Offsets
pub mod Apart
pub mod Groups
pub mod HomeLines
pub mod WayHome
pub mod HomeDrives
pub mod Meeting
pub mod LinesLaws
pub mod DepotLaws
pub mod Clearances
pub mod Theorems
pub mod Mornings
