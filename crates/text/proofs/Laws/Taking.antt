-- What the twin takes where the text is whole: each item's bytes are what the grammar calls by its name.
pub mod Escapes
pub mod Items
pub mod Numbers
pub mod Sequences
pub mod Spaces
pub mod Strings
