-- How the program stands between two steps of its run, and why it ends.
pub mod States
