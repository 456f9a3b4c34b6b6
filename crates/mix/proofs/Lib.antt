pub mod Writes
pub mod Silent
