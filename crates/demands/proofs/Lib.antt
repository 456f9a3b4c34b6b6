pub mod Run
pub mod Cancels
pub mod Costs
