pub mod Timeline
pub mod Heads
