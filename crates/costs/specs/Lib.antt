pub mod Costs
pub mod Seen
