pub mod Examples
pub mod Fields
pub mod Reasons
