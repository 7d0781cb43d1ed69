pub mod Places
pub mod Repeated
pub mod Found
pub mod Texts
pub mod Flags
