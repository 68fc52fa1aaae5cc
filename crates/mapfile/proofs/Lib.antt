-- What is proved of map files: that the workings agree with the grammar, that a file is one map or
-- has one fault, that what is written is read, and that every row of the tables holds.
pub mod HeaderSound
pub mod HeaderComplete
pub mod HeaderLaws
pub mod HeadingWorking
pub mod HeaderCut
pub mod FileLaws
pub mod FileWorking
pub mod FollowingLaws
pub mod Pieces
pub mod FollowingOutcome
pub mod RockLaws
pub mod PackedLaws
pub mod WrittenLaws
pub mod Rows
pub mod Settled
pub mod FollowingSettled
