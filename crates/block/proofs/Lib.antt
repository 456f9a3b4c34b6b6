pub mod Tests
pub mod Mixes
pub mod Parts
