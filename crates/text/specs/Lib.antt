-- What the contracts of `text` cite. To be believed are the first four; what the others mean is proved.
pub mod Json
pub mod Verdicts
pub mod Contents
pub mod Printing
pub mod Machine
pub mod Reading
pub mod Seeking
pub mod Skipping
