-- What the parts of the public calls promise, and the way from the parts of the two map-file calls
-- to the calls' promises.
pub mod Prepared
pub mod Morning
pub mod Files
pub mod Told
pub mod Sharing
pub mod Writing
pub mod Reading
