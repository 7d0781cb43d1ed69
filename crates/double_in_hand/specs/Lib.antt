pub mod Hand
pub mod OfReading
pub mod Stored
