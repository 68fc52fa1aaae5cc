-- Laws that the functions' proofs cite: of the search and of the lines that it finds, and of the
-- drive in two parts.
pub mod SearchLaws
pub mod LineLaws
pub mod PartLaws
pub mod ByWayLaws
