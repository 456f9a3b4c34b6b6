-- The laws that the proofs of `floats` share. Assumes nothing.
pub mod Compared
