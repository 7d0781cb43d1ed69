pub mod Bounds
pub mod Places
