pub mod Sound
pub mod Search
pub mod Fits
pub mod Held
pub mod Apart
pub mod Spans
pub mod Editions
