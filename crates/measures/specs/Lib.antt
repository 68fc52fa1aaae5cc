-- What the whole map's clear distances promise, and what the functions behind them promise one
-- another.
pub mod Promise
pub mod Running
pub mod Fours
