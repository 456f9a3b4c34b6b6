pub mod Blocks
pub mod Queues
pub mod Ranges
pub mod Turns
pub mod Schedules
pub mod Events
pub mod Costs
