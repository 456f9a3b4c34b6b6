pub mod Played
pub mod Rows
