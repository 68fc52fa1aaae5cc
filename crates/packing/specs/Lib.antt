-- Packed rows as the code writes them, and why these are the grammar's.
pub mod Packing
pub mod PackingLaws
pub mod RowLaws
