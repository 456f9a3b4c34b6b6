pub mod Bodies
pub mod Heads
