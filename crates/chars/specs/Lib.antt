-- What the contracts of `chars` cite. To be believed are the first six; the others are executable twins, proved equal.
pub mod Base
pub mod Utf8
pub mod Strings
pub mod Written
pub mod Putting
pub mod Lines
pub mod Decoding
pub mod Steps
