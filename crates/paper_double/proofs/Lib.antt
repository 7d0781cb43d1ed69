pub mod Doubles
pub mod Powers
pub mod Table
pub mod Rungs
