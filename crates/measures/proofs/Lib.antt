-- What the proofs of several functions share: a crossing's distance from its neighbour's, lines of
-- crossings, and running numbers step by step.
mod Ahead
mod Lines
mod Steps
mod Runs
mod Rows
mod Columns
mod Meaning
