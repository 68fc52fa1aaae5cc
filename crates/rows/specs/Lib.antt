-- A map as rows of bits. The numbers of the layout stand in Layout, where a crossing's bit stands
-- in Rows; Sheets has what reading a sheet and writing the labels promise; Laws what the crates
-- above use too.
pub mod Layout
pub mod Rows
pub mod Sheets
pub mod Laws
