-- What the contracts of `writing` cite.
pub mod WrittenForm
pub mod Valid
pub mod Showing
pub mod Plain
pub mod Bytes
pub mod Spelling
