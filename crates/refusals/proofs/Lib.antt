pub mod Rows
pub mod Lent
pub mod Times
