pub mod Told
pub mod Fields
pub mod Codes
pub mod There
