pub mod Left
pub mod Stored
