pub mod Operations
pub mod Outcomes
pub mod Charged
pub mod Held
pub mod Keepable
pub mod Exports
