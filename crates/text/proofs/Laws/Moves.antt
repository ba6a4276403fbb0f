-- What an item does with a byte, from what a test told of the byte: one file for each kind of byte.
pub mod Bytes
pub mod Numbers
pub mod Owing
pub mod Strings
pub mod Values
