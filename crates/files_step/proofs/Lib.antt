pub mod Along
pub mod Onward
pub mod Steps
pub mod Over
