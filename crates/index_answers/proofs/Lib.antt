pub mod Alone
pub mod Same
