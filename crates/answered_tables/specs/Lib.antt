pub mod Tables
pub mod Passages
