-- In the order of the argument: what a step computes (Steps), runs of any length (Spreading), the
-- sum of the words (Totals), a word grown (Growing), growth added up and brought to an end
-- (Sweeping), whose turn it is (Turns), and the rows that need no look (Marks).
pub mod Steps
pub mod Spreading
pub mod Totals
pub mod Growing
pub mod Sweeping
pub mod Turns
pub mod Marks
