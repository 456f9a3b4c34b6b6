pub mod Along
pub mod Flushes
