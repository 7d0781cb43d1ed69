pub mod Storing
pub mod Words
pub mod Canonical
