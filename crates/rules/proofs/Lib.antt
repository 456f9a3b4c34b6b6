pub mod Table
pub mod Sheet
pub mod Cases
pub mod Rust
