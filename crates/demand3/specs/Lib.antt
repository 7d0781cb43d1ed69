pub mod Same
pub mod Fields
pub mod Flags
pub mod Demand3
