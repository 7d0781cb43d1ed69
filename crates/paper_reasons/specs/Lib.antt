pub mod Ranges
pub mod Reason
pub mod File
