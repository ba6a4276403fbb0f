-- What the contracts of `held` cite.
pub mod Held
pub mod Lying
pub mod Places
