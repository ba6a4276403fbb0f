-- What the contracts of `rooms` cite.
pub mod Rooms
pub mod Listing
pub mod Walking
