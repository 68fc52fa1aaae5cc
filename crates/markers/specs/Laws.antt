-- What the proofs of several crates share of the marker list. It holds however the list is lent.
--     Rising                 ids that rise stand in one slot each
--     Making                 what entering and clearing make a list with
--     Rocks                  rocks by slots
--     Stamping               a sheet being stamped, marker by marker, and that a stamped sheet is settled by its rocks: stamped_one
--     Placing                where an id stands or belongs, searched by halves
pub mod Rising
pub mod Making
pub mod Rocks
pub mod Stamping
pub mod Placing
