-- What the contracts of `policy` cite.
pub mod Refusals
pub mod Reading
pub mod Statements
