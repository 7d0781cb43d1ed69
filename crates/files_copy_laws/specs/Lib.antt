pub mod CopyFile
pub mod Demand
pub mod Storing
