-- The laws that the proofs of `samples` share. Assumes nothing.
pub mod Once
pub mod Cut
pub mod Places
pub mod Beginning
pub mod Halving
pub mod Moved
pub mod Fading
pub mod Ratio
pub mod Powers
pub mod Floors
pub mod Held
pub mod Curve
