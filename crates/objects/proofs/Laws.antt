-- What is proved of the definitions, by subject.
pub mod Contexts
pub mod Filling
pub mod Gathering
pub mod Leaving
pub mod Listed
pub mod Left
pub mod Policies
pub mod Records
pub mod Settling
pub mod Statements
pub mod Words
