pub mod Plain
pub mod Walked
