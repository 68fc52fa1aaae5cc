-- The state before a sweep as a sheet (Before), what a sweep adds (Growing), and the queue of the
-- rocks (Gathering), and a sweep with its end (Sweeping).
pub mod Before
pub mod Growing
pub mod Gathering
pub mod Sweeping
pub mod Stages
