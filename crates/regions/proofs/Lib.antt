-- Laws that the functions' proofs cite: of one axis, of looks at a sheet, of passes and how they
-- walk, of what a pass means and how two of them make the region.
pub mod WayLaws
pub mod LookLaws
pub mod PassLaws
pub mod WalkLaws
pub mod PassMeaning
pub mod RegionMade
pub mod Finding
