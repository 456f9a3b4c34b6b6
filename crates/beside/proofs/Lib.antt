pub mod Same
pub mod Places
