-- What the contracts of the three public functions say beyond their equations. Assumes nothing.
pub mod Widths
