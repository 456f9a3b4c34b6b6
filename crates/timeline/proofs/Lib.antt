pub mod Lists
pub mod Laws
pub mod Steps
pub mod Held
pub mod Heads
