-- Laws that the functions' proofs cite: of the chooser's choice, and of the route that its drive is
-- written to.
pub mod ChoiceLaws
pub mod RouteLaws
pub mod Making
