pub mod Search
pub mod Turns
pub mod Members
pub mod Table
pub mod Walk
pub mod Blocks
pub mod Copies
pub mod Part
