pub mod Closing
pub mod Settled
