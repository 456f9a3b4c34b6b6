pub mod Param
pub mod Takes
pub mod Processed
