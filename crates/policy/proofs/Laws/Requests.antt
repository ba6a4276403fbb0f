-- Laws for holding a record: its tests, its lists of one, its context entries and what the whole says.
pub mod Context
pub mod Fits
pub mod Contexts
pub mod Record
pub mod Paid
