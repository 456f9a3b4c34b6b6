pub mod Once
pub mod Patterns
