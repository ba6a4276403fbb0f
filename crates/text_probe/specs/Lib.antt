-- What the contracts of `text_probe` cite.
pub mod Numbers
