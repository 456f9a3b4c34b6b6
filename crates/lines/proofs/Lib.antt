pub mod Cases
pub mod Moving
pub mod Taking
