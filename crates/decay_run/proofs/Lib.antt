pub mod Halves
pub mod Commas
pub mod Breaks
