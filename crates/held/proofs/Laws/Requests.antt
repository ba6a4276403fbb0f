-- Laws for holding a record.
pub mod Lying
