pub mod Turns
pub mod Costs
