pub mod Parts
pub mod Heads
pub mod Groups
