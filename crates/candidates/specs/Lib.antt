-- What the contracts of `candidates` cite.
pub mod Candidates
pub mod Beginnings
pub mod Kinds
pub mod Entries
pub mod Places
pub mod Rows
pub mod Joining
