-- What the contracts of `restate` cite.
pub mod Operations
pub mod Restating
