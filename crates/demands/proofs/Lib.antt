-- Proofs of the demands.
pub mod Laws
