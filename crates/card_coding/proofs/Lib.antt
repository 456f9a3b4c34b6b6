pub mod Kept
pub mod Calls
pub mod Ended
pub mod Chain
