-- The laws that the proofs of `powers` share. Assumes nothing.
pub mod Digits
pub mod Near
