-- What the contracts of `decision` cite.
pub mod Matching
pub mod Decision
pub mod Deciding
