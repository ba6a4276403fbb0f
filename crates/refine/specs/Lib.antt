-- What the contracts of `refine` cite.
pub mod Operations
pub mod Sound
pub mod Exports
