-- What the contracts of `decide` cite.
pub mod Operations
