pub mod Run
pub mod Costs
