pub mod Twos
pub mod Numbers
