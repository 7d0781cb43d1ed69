pub mod Below
pub mod Added
pub mod Above
