pub mod Puts
pub mod Filled
pub mod Once
