pub mod Weights
pub mod Turned
pub mod Costs
pub mod Seen
pub mod Example
