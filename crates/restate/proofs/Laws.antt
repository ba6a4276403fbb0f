pub mod Handing
pub mod Operations
