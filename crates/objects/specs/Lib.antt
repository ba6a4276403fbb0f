-- What the contracts of `objects` cite.
pub mod Contexts
pub mod Filling
pub mod Gathering
pub mod Leaving
pub mod Records
pub mod Spans
pub mod Statements
pub mod Telling
