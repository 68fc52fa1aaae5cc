-- Laws of the marker list. They hold however the list is lent.
--     Moves                  where each marker goes
--     Formed, Reached        entering and clearing keep a list well formed, and so does every sequence of them: entered_formed, cleared_formed,
--                            reached_formed
--     Entering, Clearing     there is one list after: entered_some, entered_one, cleared_some, cleared_one
--     Times                  every other marker stands there as often as before: entered_other, entered_itself, cleared_other, cleared_itself
--     Rocks                  which crossings are rocks after: rock_enter, rock_clear, rock_clear_other
pub mod Moves
pub mod Formed
pub mod Reached
pub mod Entering
pub mod Clearing
pub mod Times
pub mod Rocks
