-- Laws for holding a record.
pub mod Tests
pub mod Members
pub mod Sole
pub mod Laying
pub mod Objects
