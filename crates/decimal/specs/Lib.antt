pub mod Codes
pub mod Decimals
pub mod Shown
