pub mod Standing
pub mod Steps
pub mod Turns
pub mod Order
pub mod FieldBytes
pub mod Started
pub mod RowStarted
