-- What is proved of pictures: that the workings agree with the grammar, that what is written is one
-- picture, and that every row of the table holds.
pub mod WorkingLaws
pub mod PictureLaws
pub mod WrittenLaws
pub mod Rows
pub mod Settled
