-- The laws that the proofs of `runs` share. Assumes nothing.
pub mod Ascent
pub mod Begun
pub mod Climb
pub mod Eaching
pub mod Telling
pub mod Placing
pub mod Lifting
pub mod Places
pub mod Later
pub mod Shown
pub mod Cells
pub mod Filling
pub mod Passing
