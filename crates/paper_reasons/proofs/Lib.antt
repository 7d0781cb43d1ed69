pub mod NoReason
pub mod Passed
