pub mod Inside
pub mod Copied
pub mod Placed
pub mod Faults
pub mod Passages
