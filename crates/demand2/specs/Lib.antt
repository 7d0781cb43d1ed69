pub mod Writing
pub mod Demand2
