pub mod PassedEntries
pub mod Reasons
