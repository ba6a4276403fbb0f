-- What the contracts of `straight` cite.
pub mod Marks
pub mod Taking
pub mod Operators
