pub mod Examples
pub mod Nearest
pub mod Reading
pub mod Scaling
pub mod Showing
pub mod Written
