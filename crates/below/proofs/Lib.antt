pub mod Agree
pub mod Below
pub mod Behind
pub mod Added
pub mod Above
