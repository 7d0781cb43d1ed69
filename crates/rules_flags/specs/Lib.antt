pub mod Below
pub mod Lent
