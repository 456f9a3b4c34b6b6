pub mod Cell
pub mod Told
