-- The laws that the proofs of `phases` share. Assumes nothing.
pub mod Once
pub mod Phase
pub mod Quick
pub mod Less
pub mod Seen
