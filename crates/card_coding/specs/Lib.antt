pub mod Array
pub mod Calls
