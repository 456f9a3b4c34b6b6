pub mod Begins
pub mod Called
pub mod Does
pub mod Ends
pub mod Events
pub mod Feeding
pub mod Singles
pub mod Taking
