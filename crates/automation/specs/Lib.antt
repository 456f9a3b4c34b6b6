pub mod Walks
pub mod Walked
