pub mod Sees
pub mod Looking
pub mod Blocks
pub mod Same
