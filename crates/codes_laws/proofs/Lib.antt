pub mod Copied
pub mod Runs
pub mod Outcomes
pub mod Inside
pub mod Placed
pub mod Beside
pub mod Faults
pub mod Passages
