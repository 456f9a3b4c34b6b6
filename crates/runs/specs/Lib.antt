pub mod After
pub mod Each
pub mod Passes
pub mod Rising
pub mod Placed
