-- Laws that the proofs of the code cite: the way from what the parts promise to the calls'
-- promises.
mod Tables
mod Joining
mod LabelAnswers
mod DriveAnswers
mod Mornings
mod Handing
mod Listing
mod Writing
mod Putting
mod Reading
