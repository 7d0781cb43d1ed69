pub mod EntryRecords
pub mod PlainParts
pub mod Roles
