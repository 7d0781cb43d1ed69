pub mod Passing
pub mod Between
