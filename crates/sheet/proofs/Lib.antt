pub mod Asks
pub mod Rendered
pub mod Counts
pub mod Sheet
