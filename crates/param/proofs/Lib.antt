pub mod Calls
pub mod Settled
pub mod Parts
pub mod Plays
pub mod Blocks
