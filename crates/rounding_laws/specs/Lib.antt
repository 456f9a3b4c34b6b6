-- What the laws of rounding and the contracts of `rounding` cite. Assumes nothing.
pub mod Parts
pub mod Total
pub mod Stuck
pub mod Cut
pub mod Nearest
