-- Laws that the proofs of the header's functions share.
mod Skipping
mod Numbering
mod Heading
mod Counting
