pub mod Clashing
pub mod Examples
