pub mod Parts
pub mod Turns
pub mod Judging
pub mod Formats
pub mod Saving
