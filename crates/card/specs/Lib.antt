pub mod Card
pub mod Back
