pub mod Blanks
pub mod Examples
pub mod Steps
