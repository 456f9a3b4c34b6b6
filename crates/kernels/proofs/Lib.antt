-- What the kernels' definitions mean, and the laws that their proofs share. Assumes nothing.
pub mod Powers
pub mod Roots
pub mod Falling
pub mod Logs
