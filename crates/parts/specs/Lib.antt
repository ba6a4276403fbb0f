-- What the contracts of `parts` cite.
pub mod Slots
pub mod Room
pub mod Holding
pub mod Requests
pub mod Spoken
pub mod Unfit
