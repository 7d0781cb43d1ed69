pub mod Replaced
pub mod CopyField
pub mod Copy
pub mod Storing
pub mod Call
pub mod Demand
