pub mod Back
pub mod Pairs
pub mod Patterns
pub mod Reading
pub mod Splitting
pub mod Writing
