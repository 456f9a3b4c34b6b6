-- The laws that the proofs of `decays` share. Assumes nothing.
pub mod Range
pub mod Window
pub mod Fits
pub mod Between
pub mod Growth
pub mod Shown
pub mod Products
