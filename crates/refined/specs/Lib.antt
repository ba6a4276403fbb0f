-- What the contracts of `refined` cite.
pub mod Finishing
pub mod Keeping
