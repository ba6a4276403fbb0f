-- Laws of `policy_probe`'s definitions, which the proofs of its functions cite.
mod Laws
