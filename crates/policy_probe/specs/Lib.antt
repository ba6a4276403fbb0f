-- What the contracts of `policy_probe` cite.
pub mod Numbers
