pub mod Canonical
pub mod Closed
pub mod Storing
pub mod Writing
pub mod Claims
pub mod Marked
pub mod Replacing
