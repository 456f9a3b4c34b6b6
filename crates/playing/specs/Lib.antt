pub mod Play
pub mod Demand
pub mod Cancels
pub mod Results
