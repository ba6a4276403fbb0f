-- What is promised of whole logs.
pub mod Logs
pub mod Charges
pub mod Narrowing
pub mod Outcomes
pub mod Again
pub mod Trials
pub mod Imitations
