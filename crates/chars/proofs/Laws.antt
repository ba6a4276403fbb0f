-- Laws of the definitions in specs/: each file rests only on files named before it.
pub mod Tests
pub mod Lines
pub mod Putting
pub mod Strings
pub mod Written
