-- Laws of `decide`'s definitions, which the proofs of its functions and of the crates above cite.
pub mod Laws
