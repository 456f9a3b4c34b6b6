pub mod Parts
pub mod Cuts
pub mod Calls
