pub mod Plain
pub mod Refusals
