pub mod Digits
pub mod Floats
pub mod Hex
pub mod Put
pub mod Words
